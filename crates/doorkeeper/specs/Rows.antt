-- The counts that a doorkeeper keeps.
use Rattle.std.specs.Prelude.{ℕ, ◌≡◌, ◌<◌, List, Option, Some, None, get_or}
use Rattle.std.specs.Prelude.{nat_eq}
use Rattle.std.specs.declared.hash.FoldHasher.{FoldHasher}
use Rattle.std.specs.declared.hash.BuildHasherDefault.{BuildHasherDefault}
use Rattle.std.specs.HashMap.{get, HashMap}
use Rattle.ids.specs.declared.limits.TheConstants.{MOST_REPLICAS}
use Rattle.doorkeeper.specs.declared.brought.Brought.{Brought}
use Rattle.doorkeeper.specs.Doors.{brought, PassedAll}

-- a row of counts for each height of which there is one
abbrev pub Rows : Type 0
Rows = HashMap ℕ (List ℕ) (BuildHasherDefault FoldHasher)

-- the count of a payer in a row, if there is one
abbrev pub count_in : ℕ → Option (List ℕ) → ℕ
count_in payer None = 0
count_in payer (Some row) = get_or row payer 0

-- The rows count the blocks that were taken, and each of these passed, of n replicas.
pub record AreCounts (n : ℕ) (rows : Rows) (taken : List Brought) : Type 0 where
  pub right : (height payer : ℕ) → payer < MOST_REPLICAS
      → count_in payer (get nat_eq rows height) ≡ brought height payer taken
  pub passed : PassedAll n taken
