mod Comparisons
pub mod Texts
pub mod Skips
