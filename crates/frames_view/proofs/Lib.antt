pub mod Walks
pub mod Exact
pub mod Parts
pub mod Whole
pub mod Cores
pub mod Spelled
pub mod Contents
pub mod Places
