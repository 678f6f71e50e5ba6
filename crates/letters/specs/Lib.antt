pub mod Letters
pub mod Reading
pub mod Laws
