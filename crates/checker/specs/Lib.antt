pub mod Ends
pub mod Keys
pub mod Checked
