pub mod Holders
pub mod KeyFile
pub mod Reading
