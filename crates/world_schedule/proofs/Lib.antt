pub mod Asking
pub mod Clients
pub mod Seated
pub mod Runs
pub mod Telling
pub mod Rooms
pub mod Sourced
