pub mod Following
mod Keyed
mod Overtaking
