use Rattle.std.proofs.Common.{◌≡◌, ℕ, ◌<◌, ◌*◌, length}
use Rattle.sha2.specs.Sha256.{word_at}
use Rattle.lanes.specs.Lanes.{at}
use Rattle.lanes.proofs.blocks.words_of.Given as goal

abbrev pub invariant-loop-i : goal.invariant-loop-i
invariant-loop-i l = record {
  long : length l.words ≡ 16;
  a : (i : ℕ) → i < l.i → at l.words i 0 ≡ word_at l.a (4 * i);
  b : (i : ℕ) → i < l.i → at l.words i 1 ≡ word_at l.b (4 * i);
  c : (i : ℕ) → i < l.i → at l.words i 2 ≡ word_at l.c (4 * i);
  d : (i : ℕ) → i < l.i → at l.words i 3 ≡ word_at l.d (4 * i);
}
