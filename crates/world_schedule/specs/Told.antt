-- What a replica executed, as it is told.
use Rattle.std.specs.Prelude.{ℕ}
use Rattle.definitions.specs.Histories.{History}

-- a replica's number, and its history, newest first
pub record Told : Type 0 where
  pub replica : ℕ
  pub history : History
