pub mod Answering
pub mod Devices
pub mod FirstItems
pub mod Fronts
pub mod Outcomes
