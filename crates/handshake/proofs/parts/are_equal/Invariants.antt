-- None differs so far exactly where the bytes so far are equal.
use Rattle.std.proofs.Common.{◌≡◌, take}
use Rattle.handshake.proofs.parts.are_equal.Given as goal

abbrev pub invariant-loop-i : goal.invariant-loop-i
invariant-loop-i l = record {
  same : l.differing ≡ 0 → take l.i l.a ≡ take l.i l.b;
  none : take l.i l.a ≡ take l.i l.b → l.differing ≡ 0;
}
