pub mod Tokens
pub mod Grammars
pub mod Sizes
pub mod Readers
