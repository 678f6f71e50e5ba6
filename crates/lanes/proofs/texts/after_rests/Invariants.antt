use Rattle.std.proofs.Common.{◌≡◌, ◌<◌, ◌++◌, ℕ, List, length}
use Rattle.sha2.specs.Sha256.{hash_after}
use Rattle.lanes.specs.Lanes.{group_lane}
use Rattle.lanes.specs.Texts.{after_first, tail}
use Rattle.lanes.proofs.texts.after_rests.Given as goal

abbrev pub invariant-loop-i : goal.invariant-loop-i
invariant-loop-i l = record {
  long : length l.groups ≡ length l.fn.groups;
  each : (g j : ℕ) (s h : List ℕ) → g < length l.fn.groups → j < 4 → length h ≡ l.at
      → group_lane l.fn.groups g j ≡ after_first s (h ++ l.rest)
      → group_lane l.groups g j ≡ hash_after s (tail (h ++ l.rest)) l.i;
}
