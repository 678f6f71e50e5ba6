use Rattle.std.proofs.Common.{◌≡◌, ◌<◌, ◌≤◌, ℕ, false, length, nat_lt}
use Rattle.ids.specs.declared.limits.TheConstants.{MOST_REPLICAS}
use Rattle.suspicion.specs.ReplicaSets.{is_in}
use Rattle.suspicion.specs.Passing.{tellers}
use Rattle.suspicion.proofs.passing.Passing.sure.Given as goal

-- of lower numbers those are in it that are to be, of others none
abbrev pub invariant-loop-number : goal.invariant-loop-number
invariant-loop-number l =
    (length l.sure ≡ MOST_REPLICAS)
    × ((r : ℕ) → r < l.number → is_in l.sure r ≡ nat_lt l.self.most (tellers l.self.told r))
    × ((r : ℕ) → r < MOST_REPLICAS → l.number ≤ r → is_in l.sure r ≡ false)
