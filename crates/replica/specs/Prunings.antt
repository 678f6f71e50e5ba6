-- What a pruning changes.
use Rattle.std.specs.Prelude.{ℕ, [], max, min}
use Rattle.replica.specs.declared.stored.StoredStep.TheVariants.{Pruned}
use Rattle.replica.specs.declared.change.Change.{Change}
use Rattle.replica.specs.declared.change.Growth.TheVariants.{Prune}
use Rattle.replica.specs.Kept.{Variables}
use Rattle.replica.specs.Changes.{noting}

-- the horizon that a pruning leaves
abbrev pub horizon_at : Variables → ℕ → ℕ
horizon_at v height = max (min height v.rules.executed.height) v.horizon

-- it is noted, and the tree is pruned
abbrev pub prune_change : Variables → ℕ → Change
prune_change v height = record (noting v (Pruned height) []) { growth = Prune (horizon_at v height) }
