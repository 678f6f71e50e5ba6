pub mod Tallies
pub mod Sessions
