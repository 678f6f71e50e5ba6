pub mod Barring
pub mod Telling
pub mod Receiving
pub mod Writing
pub mod Meeting
