use Rattle.std.proofs.Common.{length, arith, sym, ap, subst}
use Rattle.std.proofs.lemmas.List.{length-take}
use Rattle.definitions.specs.Slices.{LiesAt}
use Rattle.definitions.proofs.Slices.{LiesAt-take}
use Rattle.frames_view.proofs.cursor.take_32.Goals as goal

pub returns-clause-whole : goal.returns-clause-whole
returns-clause-whole c =
    omega (arith, ap length c.block_at.ensures, length-take 32 c.args.bytes.now, c.if-bytes-lt32.false)

pub returns-clause-lent : goal.returns-clause-lent
returns-clause-lent c = (
  subst (LiesAt c.args.bytes.now 0) (sym c.block_at.ensures) (LiesAt-take c.args.bytes.now 32 0),
  c.from.ensures.lent,
)
