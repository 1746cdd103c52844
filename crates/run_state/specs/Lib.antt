pub mod Registers
pub mod Machine
