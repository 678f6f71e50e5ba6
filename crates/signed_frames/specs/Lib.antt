pub mod Clients
pub mod Outs
