use Rattle.std.proofs.Common.{◌≡◌, ◌+◌, ◌≤◌, ◌++◌, length, take}
use Rattle.std.specs.Prelude.{vec_len, vec_capacity}
use Rattle.appending.specs.Joined.{joined}
use Rattle.appending.proofs.put_parts.Given as goal

abbrev pub invariant-loop-part : goal.invariant-loop-part
invariant-loop-part l =
    record {
      items : l.out.items ≡ l.fn.out.items ++ joined (take l.part-index l.parts);
      len : vec_len l.out ≡ vec_len l.fn.out + length (joined (take l.part-index l.parts));
      capacity : vec_capacity l.fn.out ≤ vec_capacity l.out;
    }
