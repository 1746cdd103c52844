pub mod Shapes
pub mod ExpressionAlternatives
pub mod DeclarationAlternatives
pub mod StatementAlternatives
pub mod ObjectTypes
pub mod Objects
pub mod ChainLaws
pub mod Levels
pub mod OperandsFit
mod ExampleTexts
mod WorkedExamples
mod NameExamples
mod TypeExamples
mod OperatorExamples
mod AssignmentExamples
mod AllocationExamples
mod InitialiserExamples
mod StatementExamples
mod LimitExamples
mod CoreExamples
mod TreeExamples
mod FileCellExamples
