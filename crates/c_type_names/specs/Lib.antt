pub mod TypeReading
pub mod Held
