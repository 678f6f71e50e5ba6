pub mod Asking
pub mod Choosing
pub mod Laws
