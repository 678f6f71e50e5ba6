pub mod Certified
pub mod Agreement
pub mod Careful
pub mod Example
