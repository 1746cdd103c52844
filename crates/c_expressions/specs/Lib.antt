pub mod ExpressionReading
pub mod Exactness
