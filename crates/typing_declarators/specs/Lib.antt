pub mod Adding
pub mod Layers
pub mod Types
pub mod Names
