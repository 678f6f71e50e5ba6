use Rattle.std.proofs.Common.{ℕ, ◌≡◌, ◌+◌, ◌<◌, ◌≤◌, false, length, get_or}
use Rattle.frame_record.specs.declared.recorded.Recorded.{Recorded}
use Rattle.frame_record.specs.Costs.{is_of}
use Rattle.frame_record.proofs.ordered.has.Given as goal

abbrev pub invariant-loop-k : goal.invariant-loop-k
invariant-loop-k l = (j : ℕ) (d : Recorded) → length l.frames.items ≤ j + l.k → j < length l.frames.items
    → is_of l.height l.block (get_or l.frames.items j d) ≡ false
