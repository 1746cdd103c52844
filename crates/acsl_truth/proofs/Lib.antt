pub mod AccessLaws
pub mod LocationLaws
pub mod PredicateViews
pub mod RangeLaws
pub mod StructMembers
