pub mod Lookups
pub mod Orders
pub mod Evictions
pub mod Edits
