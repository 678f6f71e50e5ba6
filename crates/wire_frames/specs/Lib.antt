pub mod Longest
pub mod Framing
