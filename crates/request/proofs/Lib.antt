pub mod Requests
pub mod Places
pub mod Writes
