pub mod Points
pub mod Making
pub mod Locals
pub mod Blocks
