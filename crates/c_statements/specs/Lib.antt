pub mod StatementReading
pub mod Exactness
