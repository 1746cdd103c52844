pub mod Code
pub mod Additions
