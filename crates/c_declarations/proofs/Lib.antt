pub mod UnsizedLaws
pub mod BracketLaws
pub mod DeclaratorLaws
pub mod DeclaredLaws
pub mod SizesLaws
pub mod ParameterLaws
pub mod ExactnessLaws
