pub mod Batches
pub mod Costing
pub mod Finding
pub mod Histories
pub mod Order
pub mod Parting
