pub mod EitherLaws
pub mod PredicateComplete
pub mod PredicateSound
pub mod TermComplete
pub mod TermSound
pub mod WordLaws
