pub mod Commands
pub mod FirstForm
pub mod Simulation
pub mod Answers
pub mod Arguments
