pub mod SmallTypes
pub mod SmallPrograms
pub mod ParsedSyntax
pub mod Soundness
pub mod ShallowSyntax
