pub mod Chains
pub mod Inside
pub mod Laws
pub mod Region
