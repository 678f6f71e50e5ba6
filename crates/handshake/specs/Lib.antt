pub mod Labels
pub mod Texts
pub mod Judging
pub mod Laws
