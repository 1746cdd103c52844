pub mod Lists
mod TypesOfObjects
mod Calls
mod Splits
pub mod Forms
pub mod Arguments
