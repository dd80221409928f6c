pub mod Trees
pub mod Parts
pub mod Places
pub mod Stacks
pub mod Rows
pub mod Progresses
