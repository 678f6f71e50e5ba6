pub mod Devices
pub mod Serving
pub mod Steps
