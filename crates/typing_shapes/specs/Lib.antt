pub mod Requests
pub mod Levels
pub mod Bare
pub mod Numbers
