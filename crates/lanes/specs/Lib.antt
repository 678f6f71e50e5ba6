pub mod Lanes
pub mod Texts
