pub mod NameLists
pub mod Stars
pub mod Scopes
pub mod FileScopes
pub mod Entries
pub mod LastBlock
pub mod WantOfMemory
