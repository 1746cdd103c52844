pub mod DepthForms
pub mod HeightForms
pub mod CappedLaws
pub mod VariableChunks
pub mod FirstValues
pub mod StartLaws
