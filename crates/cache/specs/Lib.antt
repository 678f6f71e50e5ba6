pub use Rattle.definitions.specs.Cache
pub use Rattle.mc_lines.specs.Meaning
pub mod Tables
pub mod Steps
