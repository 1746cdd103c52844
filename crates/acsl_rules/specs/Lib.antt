pub mod Checked
pub mod Parts
pub mod Rules
pub mod Meanings
pub mod Nodes
