pub mod Smallness
