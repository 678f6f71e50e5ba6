use Rattle.std.proofs.Common.{◌∙◌, sym, arith}
use Rattle.audit.proofs.ByNumber.{item-among}
use Rattle.audit.proofs.fronts.first_missing.Goals as goal

pub returns-then-not-stands : goal.returns-then-not-stands
returns-then-not-stands c = (
  item-among c.args.named.now.replicas.now c.loop-number.number-index c.number-item.result
      (omega (arith, c.loop-number-test.true)) c.number-item.is,
  sym c.stands.ensures ∙ c.if-not-stands.true,
)
