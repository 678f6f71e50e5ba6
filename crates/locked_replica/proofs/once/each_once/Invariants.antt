use Rattle.std.proofs.Common.{◌≡◌, ◌<◌, ◌==◌, ℕ, count_by}
use Rattle.locked_replica.proofs.once.each_once.Given as goal

abbrev pub invariant-loop-i : goal.invariant-loop-i
invariant-loop-i l = (k : ℕ) → k < l.i → count_by (λ s. s.number == k) l.shares ≡ 1
