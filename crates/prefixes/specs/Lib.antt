pub mod Words
pub mod Shapes
pub mod Texts
pub mod Walks
pub mod Verdict
