use Rattle.std.proofs.Common.{refl, arith, ◌∙◌}
use Rattle.healer.proofs.Asking.{asks-first, asks-next, asks-all}
use Rattle.healer.proofs.fetching.ask_each.Goals as goal

pub loop-to-init : goal.loop-to-init
loop-to-init c = record {
  origin = refl;
  came = asks-first c.args.block c.args.replica c.args.correct.now c.args.healer.now;
}

pub loop-to-preserved : goal.loop-to-preserved
loop-to-preserved c = record {
  origin = c.in_ok-ask_one.ensures.origin ∙ c.loop-to.invariant.origin;
  came = asks-next c.args.block c.args.replica c.args.correct.now c.loop-to.to-index c.to-item.result c.to-item.result
      c.args.healer.now c.loop-to.healer c.ask_one.new.healer (omega (arith, c.loop-to-test.true)) c.to-item.is
      c.loop-to.invariant.came c.in_ok-ask_one.ensures.came;
}

pub returns-clause-came : goal.returns-clause-came
returns-clause-came c =
    asks-all c.args.block c.args.replica c.args.correct.now c.loop-to.to-index c.args.healer.now c.loop-to.healer
    (omega (arith, c.loop-to-test.false)) c.loop-to.invariant.came
