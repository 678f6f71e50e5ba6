pub mod Accounts
pub mod Climbing
pub mod Counted
pub mod Crowds
pub mod Remembering
