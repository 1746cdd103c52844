-- The first form.
pub mod Weaving
pub mod Layout
pub mod Cores
pub mod Task
