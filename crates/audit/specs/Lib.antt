pub mod Judged
pub mod Verdicts
pub mod Fronts
pub mod Deeds
pub mod Cores
pub mod Shown
