use Rattle.std.proofs.Common.{◌≡◌, ℕ, ◌<◌, List, length, slice_index}
use Rattle.sha2.specs.Sha256.{schedule}
use Rattle.lanes.specs.Lanes.{HasWords, at}
use Rattle.lanes.proofs.compression.next_words.Given as goal

abbrev pub invariant-loop-t : goal.invariant-loop-t
invariant-loop-t l = (length l.w ≡ 64)
    × ((j : ℕ) (b : List ℕ) → j < 4 → HasWords l.fn.w j b → (i : ℕ) → i < l.t → at l.w i j ≡ slice_index (schedule b 48) i)
