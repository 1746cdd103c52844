pub mod Parameters
pub mod Signatures
pub mod Functions
