use Rattle.std.proofs.Common.{rules}
use Rattle.mc_lines.proofs.WriteLaws.{length-values_text-take}
use Rattle.mc_lines.proofs.write.add_values_len.Goals as goal

pub returns-in_err-len : goal.returns-in_err-len
returns-in_err-len c =
    let bound = length-values_text-take c.args.values.now c.args.with_cas_unique c.loop-value.value-index
    c.value-item.result c.value-item.is c.loop-value-test.true in
    search rules
