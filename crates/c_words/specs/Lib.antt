pub mod Words
pub mod OperatorWords
pub mod Written
pub mod Parsing
pub mod Operators
pub mod Follows
