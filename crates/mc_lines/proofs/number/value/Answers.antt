use Rattle.std.proofs.Common.{arith}
use Rattle.mc_lines.proofs.Numbers.{digits_value-more, too_great}
use Rattle.mc_lines.proofs.number.value.Goals as goal

pub returns-then-n-digit : goal.returns-then-n-digit
returns-then-n-digit c = too_great c.args.field.now c.loop-byte.byte-index c.requires (omega arith)
    (omega (arith, c.loop-byte.invariant, c.if-n-digit.true))

pub loop-byte-preserved : goal.loop-byte-preserved
loop-byte-preserved c = omega (
  arith,
  c.loop-byte.invariant,
  digits_value-more c.args.field.now c.loop-byte.byte-index c.requires (omega arith),
)
