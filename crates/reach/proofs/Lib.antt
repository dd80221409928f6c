mod Parts
mod Texts
mod Rows
pub mod Measures
