-- What is stored of a block that was taken in.
use Rattle.std.specs.Prelude.{ℕ, Bool, List}
use Rattle.definitions.specs.Frames.{Core, Certificate}

-- of a new one, beside what stands in the tree: the counted voters, the replicas that sent it where it was taken
-- for their number, and whether it was voted for
pub record NewEntry : Type 0 where
  pub counted : List ℕ
  pub senders : List ℕ
  pub voted : Bool

-- of one that stood in the tree: as it came, what was found of it, and whether it was voted for
pub record AgainEntry : Type 0 where
  pub core : Core
  pub certificate : Certificate
  pub counted : List ℕ
  pub clear : Bool
  pub voted : Bool
