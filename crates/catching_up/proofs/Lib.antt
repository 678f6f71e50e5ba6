pub mod InARow
pub mod GoingRound
pub mod Raising
pub mod Tellers
