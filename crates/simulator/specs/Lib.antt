pub mod Faults
pub mod Lines
pub mod Schedules
pub mod Simulations
pub mod Texts
