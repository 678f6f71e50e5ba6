pub mod Guarding
pub mod Keeping
pub mod Stations
pub mod Workers
