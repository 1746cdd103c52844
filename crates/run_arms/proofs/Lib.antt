pub mod ExpressionViews
pub mod StatementViews
pub mod SizeLaws
