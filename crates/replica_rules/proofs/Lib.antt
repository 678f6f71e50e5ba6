pub mod Held
pub mod Candidates
pub mod Votes
pub mod Chains
pub mod Takes
