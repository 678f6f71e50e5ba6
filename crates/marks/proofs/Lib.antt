pub mod Steps
pub mod Owners
