pub mod PartForms
pub mod Filled
pub mod CellLaws
pub mod AddressLaws
pub mod LocalLaws
