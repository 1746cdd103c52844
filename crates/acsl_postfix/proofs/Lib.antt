pub mod Steps
pub mod Sorts
pub mod ChainForms
pub mod TermForms
pub mod PredicateForms
pub mod WholeForms
