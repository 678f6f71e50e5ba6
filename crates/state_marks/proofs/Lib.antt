pub mod Histories
pub mod Reading
