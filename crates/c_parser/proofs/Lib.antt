pub mod FirstForm
pub mod Prefixes
pub mod ItemWords
pub mod ItemLaws
pub mod TreeLaws
