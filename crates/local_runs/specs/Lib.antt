pub mod Processes
pub mod Law
