pub mod Vocabulary
pub mod Trees
pub mod TermReading
pub mod Exactness
