pub mod Made
pub mod TypeParts
