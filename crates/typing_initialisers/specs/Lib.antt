pub mod Initialisers
pub mod Parts
pub mod Locals
