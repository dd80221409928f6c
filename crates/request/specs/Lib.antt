pub mod Asked
pub mod Grammar
pub mod Reading
pub mod Writing
pub mod Answers
pub mod Laws
