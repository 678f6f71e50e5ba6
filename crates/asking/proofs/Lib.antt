pub mod Bounds
pub mod Changing
pub mod Choosing
pub mod Places
pub mod Turns
