pub mod Showing
pub mod Going
pub mod Advancing
pub mod Views
pub mod RunningTo
pub mod Sources
