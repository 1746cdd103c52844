pub mod Coders
pub mod Readers
pub mod Forms
pub mod Exactness
