pub mod Chunks
pub mod Search
pub mod Writes
pub mod Written
