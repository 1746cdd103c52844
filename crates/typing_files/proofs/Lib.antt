pub mod Names
pub mod Runs
pub mod Outcomes
pub mod CellSums
pub mod Addresses
pub mod Points
pub mod Variables
