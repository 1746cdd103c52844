pub mod GroupingLaws
pub mod GroupSteps
