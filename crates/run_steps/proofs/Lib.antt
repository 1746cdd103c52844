pub mod Allowed
pub mod Beginnings
pub mod Conditions
