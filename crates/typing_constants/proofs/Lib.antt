pub mod PlaceForms
pub mod Wholes
pub mod SpineForms
pub mod SpineLaws
