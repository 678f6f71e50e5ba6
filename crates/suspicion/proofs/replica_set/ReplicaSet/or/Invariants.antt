use Rattle.std.proofs.Common.{◌≡◌, ◌<◌, ◌||◌, ℕ, length}
use Rattle.ids.specs.declared.limits.TheConstants.{MOST_REPLICAS}
use Rattle.suspicion.specs.ReplicaSets.{is_in}
use Rattle.suspicion.proofs.replica_set.ReplicaSet.or.Given as goal

-- those of lower numbers are those of both
abbrev pub invariant-loop-number : goal.invariant-loop-number
invariant-loop-number l =
    (length l.all-inside.has ≡ MOST_REPLICAS)
    × ((r : ℕ) → r < l.number
    → is_in l.all-inside.has r ≡ (is_in l.self-inside.has r || is_in l.others-inside.has r))
