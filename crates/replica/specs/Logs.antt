-- Steps that are written down, and the chronicle that they make.
use Rattle.std.specs.Prelude.{◌≡◌, false, List, reverse}
use Rattle.definitions.specs.Trees.{Stored}
use Rattle.definitions.specs.Chronicles.{Chronicle, was_pruned, standing_blocks}
use Rattle.definitions.specs.Histories.{Entry}
use Rattle.definitions.specs.Replicas.{Replica, held_history}
use Rattle.replica.specs.declared.stored.StoredStep.{StoredStep}
use Rattle.replica.specs.Replay.{replay}

-- where these steps are held, over these blocks: those of this chronicle, which no pruning made shorter
pub record Logs (holds : List StoredStep → Type 0) (stored : List Stored) (c : Chronicle) : Type 0 where
  pub steps : List StoredStep
  pub held : holds steps
  pub replayed : replay steps stored ≡ c
  pub unpruned : was_pruned c ≡ false

-- the log of a replica
abbrev pub LogsAll : (List StoredStep → Type 0) → Replica → Type 0
LogsAll holds r = Logs holds (standing_blocks r.chronicle) r.chronicle

-- what an archive holds of a replica that was never pruned, oldest first: each step, and each command that
-- it executed
pub record IsArchiveOf (r : Replica) (steps : List StoredStep) (entries : List Entry) : Type 0 where
  pub steps_are : replay (reverse steps) (standing_blocks r.chronicle) ≡ r.chronicle
  pub entries_are : reverse entries ≡ held_history r
  pub unpruned : was_pruned r.chronicle ≡ false
