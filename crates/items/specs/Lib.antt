pub mod Text
pub mod Comparing
pub mod Skipping
