pub mod Products
pub mod Differences
pub mod BlockSizes
pub mod SizeLaws
