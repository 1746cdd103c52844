pub mod Points
pub mod Variables
pub mod CellSums
pub mod Runs
