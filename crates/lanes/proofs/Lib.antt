mod ByLane
mod Words
mod Windows
pub mod Hashing
