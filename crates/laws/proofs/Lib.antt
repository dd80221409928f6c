pub mod Heads
pub mod Encoded
pub mod Once
pub mod Decoded
pub mod Bytes
pub mod Keys
pub mod Limits
pub mod Characters
