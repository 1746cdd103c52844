pub mod Numbering
pub mod Cells
pub mod View
pub mod Inside
pub mod Filling
pub mod Storage
pub mod Start
pub mod Laws
