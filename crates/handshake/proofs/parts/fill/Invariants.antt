use Rattle.std.proofs.Common.{◌≡◌, length, take}
use Rattle.appending.specs.Joined.{joined}
use Rattle.handshake.proofs.parts.fill.Given as goal

abbrev pub invariant-loop-part : goal.invariant-loop-part
invariant-loop-part l = record {
  at : l.at ≡ length (joined (take l.part-index l.parts));
  front : take l.at l.bytes ≡ joined (take l.part-index l.parts);
}
