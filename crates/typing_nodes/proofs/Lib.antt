pub mod Alternatives
pub mod Modifiers
pub mod StatementParts
pub mod ItemParts
pub mod InitParts
