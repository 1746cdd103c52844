pub mod Taking
pub mod Reading
pub mod Chains
pub mod Runs
pub mod Tags
pub mod WordTables
pub mod LeafLaws
pub mod Turns
