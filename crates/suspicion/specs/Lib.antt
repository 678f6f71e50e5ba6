pub mod Doubting
pub mod Passing
pub mod ReplicaSets
pub mod Suspecting
pub mod Vouching
