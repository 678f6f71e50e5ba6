pub mod Ballots
pub mod Entries
pub mod Kept
pub mod Seen
pub mod Steps
