pub mod Traffic
pub mod Hearing
pub mod Waiting
pub mod Tries
pub mod Submitting
