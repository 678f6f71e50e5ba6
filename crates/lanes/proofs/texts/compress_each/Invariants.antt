use Rattle.std.proofs.Common.{◌≡◌, ◌<◌, ◌≤◌, ℕ, List, length}
use Rattle.sha2.specs.Sha256.{compress}
use Rattle.lanes.specs.Lanes.{HasKeyedSchedule, group_lane}
use Rattle.lanes.proofs.texts.compress_each.Given as goal

abbrev pub invariant-loop-group : goal.invariant-loop-group
invariant-loop-group l = record {
  long : length l.groups ≡ length l.fn.groups;
  done : (g j : ℕ) (b : List ℕ) → g < l.group-index → j < 4 → HasKeyedSchedule l.keyed j b
      → group_lane l.groups g j ≡ compress (group_lane l.fn.groups g j) b;
  left : (g j : ℕ) → l.group-index ≤ g → group_lane l.groups g j ≡ group_lane l.fn.groups g j;
}
