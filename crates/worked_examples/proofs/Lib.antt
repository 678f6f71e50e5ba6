pub mod Maps
pub mod Exchanges
pub mod FrameSizes
pub mod Versions
pub mod LineSteps
mod SmallRun
mod OneReplica
mod OnePruned
mod Rounds
mod PrunedTree
mod OnGrounds
mod Forgery
mod Computed
mod Snapshots
mod LiarTags
mod LiarWorlds
mod LiarRun
mod PrunedRun
mod AfterPruning
mod HalfRequest
mod Healed
mod Healing
mod Invented
mod ForgedForOne
mod Ready
mod Waiting
mod WaitingRun
