pub mod Answered
pub mod Passing
pub mod Written
