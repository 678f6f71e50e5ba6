pub mod Prompts
pub mod Shares
