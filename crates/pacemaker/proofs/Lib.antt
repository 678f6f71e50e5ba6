pub mod Counting
pub mod Reached
