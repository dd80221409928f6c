pub mod Token
pub mod Grammar
pub mod Reading
pub mod Writing
