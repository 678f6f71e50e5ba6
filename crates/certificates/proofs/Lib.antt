pub mod Clearing
pub mod Counting
pub mod Cutting
pub mod Passing
pub mod Genesis
