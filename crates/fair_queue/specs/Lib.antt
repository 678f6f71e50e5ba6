pub mod Queues
pub mod Laws
