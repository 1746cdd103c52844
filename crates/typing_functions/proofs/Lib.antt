pub mod Pointers
pub mod Signatures
pub mod LayerLaws
pub mod ParameterScopes
pub mod ParameterTypes
pub mod FunctionLaws
