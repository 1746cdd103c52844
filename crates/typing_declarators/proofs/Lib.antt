pub mod TypeForms
pub mod CountedTypes
pub mod LayerLaws
pub mod Lists
pub mod DeclaredTypes
pub mod ElementCounts
