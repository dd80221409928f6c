pub mod Rules
pub mod Grammar
pub mod Nodes
pub mod Entries
pub mod Reading
pub mod Stacks
pub mod Table
pub mod Verdict
