pub mod Copying
pub mod Cutting
pub mod Outcomes
pub mod Shown
