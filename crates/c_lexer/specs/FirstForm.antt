-- The first form.
pub mod Tokens
pub mod Fronts
pub mod Laws
