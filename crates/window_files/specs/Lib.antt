pub mod Files
pub mod Judging
pub mod Reading
pub mod Windows
