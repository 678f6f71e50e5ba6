pub mod Lines
pub mod Only
pub mod Reading
