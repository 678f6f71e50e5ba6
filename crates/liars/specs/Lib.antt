pub mod Any
pub mod Claims
pub mod Kept
pub mod Lies
pub mod Low
pub mod Lying
pub mod Told
