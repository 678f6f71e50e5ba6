use Rattle.std.proofs.Common.{◌≡◌, ℕ, ◌<◌, ◌≤◌, List, length, slice_index}
use Rattle.sha2.specs.Sha256.{add32, round_constants, schedule}
use Rattle.lanes.specs.Lanes.{HasSchedule, at}
use Rattle.lanes.proofs.compression.add_constants.Given as goal

abbrev pub invariant-loop-t : goal.invariant-loop-t
invariant-loop-t l = (length l.w ≡ 64)
    × ((j : ℕ) (b : List ℕ) → j < 4 → HasSchedule l.fn.w j b
    → ((i : ℕ) → i < l.t → at l.w i j ≡ add32 (slice_index round_constants i) (slice_index (schedule b 48) i))
    × ((i : ℕ) → l.t ≤ i → i < 64 → at l.w i j ≡ slice_index (schedule b 48) i))
