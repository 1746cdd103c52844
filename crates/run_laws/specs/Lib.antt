pub mod Parts
pub mod Ends
pub mod Follows
pub mod Granted
pub mod Turned
pub mod Actions
