pub mod NormalForm
pub mod SourceCode
pub mod Agreement
pub mod Shape
