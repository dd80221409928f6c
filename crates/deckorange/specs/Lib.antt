pub mod Commands
pub mod Tail
