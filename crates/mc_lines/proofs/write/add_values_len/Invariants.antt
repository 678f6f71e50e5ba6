use Rattle.std.proofs.Common.{◌≡◌, ◌+◌, length, take}
use Rattle.mc_lines.specs.Writing.{values_text}
use Rattle.mc_lines.proofs.write.add_values_len.Given as goal

abbrev pub invariant-loop-value : goal.invariant-loop-value
invariant-loop-value l =
    l.len ≡ l.fn.len + length (values_text l.with_cas_unique (take l.value-index l.values))
