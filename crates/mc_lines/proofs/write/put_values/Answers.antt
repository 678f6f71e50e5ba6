use Rattle.std.proofs.Common.{arith}
use Rattle.mc_lines.proofs.WriteLaws.{length-values_text-take}
use Rattle.mc_lines.proofs.write.put_values.Goals as goal

pub put_value-requires : goal.put_value-requires
put_value-requires c =
    omega (
      arith,
      length-values_text-take c.args.values.now c.args.with_cas_unique c.loop-value.value-index
          c.value-item.result c.value-item.is c.loop-value-test.true,
    )
