pub mod Appended
pub mod Digests
pub mod Heads
pub mod Leading
pub mod Shown
