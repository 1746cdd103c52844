pub mod AnswerLaws
pub mod FirstForm
