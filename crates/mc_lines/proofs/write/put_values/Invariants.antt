use Rattle.std.proofs.Common.{◌≡◌, ◌+◌, ◌≤◌, ◌++◌, length, take}
use Rattle.std.specs.Prelude.{vec_len, vec_capacity}
use Rattle.mc_lines.specs.Writing.{values_text}
use Rattle.mc_lines.proofs.write.put_values.Given as goal

abbrev pub invariant-loop-value : goal.invariant-loop-value
invariant-loop-value l =
    record {
      items : l.out.items ≡ l.fn.out.items ++ values_text l.with_cas_unique (take l.value-index l.values);
      len : vec_len l.out
          ≡ vec_len l.fn.out + length (values_text l.with_cas_unique (take l.value-index l.values));
      capacity : vec_capacity l.fn.out ≤ vec_capacity l.out;
    }
