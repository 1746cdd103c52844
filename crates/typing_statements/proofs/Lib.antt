pub mod Outcomes
pub mod Points
pub mod Locals
pub mod Blocks
pub mod Steps
pub mod Loops
