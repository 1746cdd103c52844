pub mod BoundedParts
pub mod CellLaws
pub mod TermViews
