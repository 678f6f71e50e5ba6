pub mod Lines
pub mod Files
pub mod Keyrings
pub mod Found
