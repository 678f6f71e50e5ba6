pub mod Climbs
pub mod Doors
pub mod Rows
