pub mod Making
pub mod Clearing
pub mod Chains
pub mod Following
pub mod Blocks
pub mod Changes
pub mod CellLaws
