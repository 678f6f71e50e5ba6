use Rattle.std.proofs.Common.{◌≡◌, ℕ, ◌<◌, ◌*◌, length}
use Rattle.sha2.specs.Sha256.{word_at}
use Rattle.lanes.specs.Lanes.{at}
use Rattle.lanes.proofs.blocks.words_of_one.Given as goal

abbrev pub invariant-loop-i : goal.invariant-loop-i
invariant-loop-i l = record {
  long : length l.words ≡ 16;
  each : (i j : ℕ) → i < l.i → j < 4 → at l.words i j ≡ word_at l.block (4 * i);
}
