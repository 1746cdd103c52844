pub mod Blocks
pub mod States
pub mod Known
pub mod Found
