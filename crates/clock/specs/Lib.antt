pub mod Watching
pub mod Following
pub mod Laws
pub mod Pruning
pub mod Troubled
