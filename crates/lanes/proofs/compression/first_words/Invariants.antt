use Rattle.std.proofs.Common.{◌≡◌, ℕ, ◌<◌, length}
use Rattle.lanes.specs.Lanes.{at}
use Rattle.lanes.proofs.compression.first_words.Given as goal

abbrev pub invariant-loop-t : goal.invariant-loop-t
invariant-loop-t l = (length l.w ≡ 64) × ((i j : ℕ) → i < l.t → at l.w i j ≡ at l.words i j)
