pub mod ExpressionShapes
pub mod DeclaratorShapes
pub mod DeclaratorNesting
