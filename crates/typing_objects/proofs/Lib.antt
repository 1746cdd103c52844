pub mod Objects
pub mod ObjectTypes
pub mod Members
