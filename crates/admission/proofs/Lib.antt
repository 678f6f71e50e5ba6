pub mod Checks
pub mod Together
