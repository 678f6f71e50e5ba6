pub mod Giving
pub mod Told
pub mod Turns
pub mod States
pub mod Laws
