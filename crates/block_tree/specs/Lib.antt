pub mod Nodes
pub mod Finding
pub mod Insertions
pub mod Indexed
pub mod Numbers
