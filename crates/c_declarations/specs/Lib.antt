pub mod Brackets
pub mod DeclaratorReading
pub mod DeclaredReading
pub mod ParameterReading
pub mod Exactness
