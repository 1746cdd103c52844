pub mod ExpressionLaws
pub mod Depths
pub mod ExactnessLaws
