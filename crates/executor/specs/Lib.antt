pub mod Rows
pub mod State
pub mod Payloads
pub mod Changing
