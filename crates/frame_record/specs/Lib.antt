pub mod Costs
pub mod Recording
pub mod Laws
pub mod Announcing
