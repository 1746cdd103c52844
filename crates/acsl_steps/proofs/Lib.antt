pub mod Runs
pub mod Combining
pub mod TermRuns
pub mod PredicateRuns
