-- The first form.
pub mod BodyLaws
pub mod FunctionLaws
pub mod ListFacts
pub mod Many
pub mod NameLaws
pub mod NewNames
pub mod NumberFacts
pub mod ProgramLaws
pub mod Spending
pub mod StatementLaws
pub mod StatementReading
pub mod Taking
pub mod TokenFacts
pub mod WholeLaws
pub mod WordFacts
