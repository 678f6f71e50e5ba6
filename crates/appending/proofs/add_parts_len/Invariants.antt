use Rattle.std.proofs.Common.{◌≡◌, ◌+◌, length, take}
use Rattle.appending.specs.Joined.{joined}
use Rattle.appending.proofs.add_parts_len.Given as goal

abbrev pub invariant-loop-part : goal.invariant-loop-part
invariant-loop-part l = l.len ≡ l.fn.len + length (joined (take l.part-index l.parts))
