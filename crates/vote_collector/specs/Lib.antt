pub mod Collecting
pub mod Following
pub mod Lawful
