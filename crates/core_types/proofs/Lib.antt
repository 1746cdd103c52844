pub mod TypeEquations
pub mod SizeLaws
pub mod MemberLaws
pub mod MemberSteps
