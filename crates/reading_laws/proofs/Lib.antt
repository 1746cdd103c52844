pub mod ReadLeaves
pub mod ReadParts
pub mod ReadExpressions
pub mod ReadDeclarations
pub mod ReadStatements
pub mod ReadItems
pub mod Trees
