pub mod Kept
pub mod Addressed
pub mod Heeding
pub mod Stepping
