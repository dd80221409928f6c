pub mod Fills
pub mod Size
pub mod Unread
