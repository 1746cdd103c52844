pub mod Depths
pub mod LastLinks
pub mod FirstTokens
pub mod Suffixes
pub mod BareForms
pub mod Operands
pub mod NumberForms
pub mod IndexForms
