pub use Rattle.definitions.specs.Tags
pub use Rattle.definitions.specs.Keyrings
pub mod Keyed
