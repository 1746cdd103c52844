-- The first form.
pub mod TokenLemmas
pub mod FoundLemmas
pub mod TokenLaws
