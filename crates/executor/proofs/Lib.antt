pub mod Told
pub mod Texts
pub mod State
pub mod Payloads
pub mod Blocks
