use Rattle.std.proofs.Common.{refl, arith, ◌∙◌}
use Rattle.healer.proofs.Waits.{comes-first, comes-next, comes-all}
use Rattle.healer.proofs.views.come_to.Goals as goal

pub loop-replica-init : goal.loop-replica-init
loop-replica-init c = record { origin = refl; came = comes-first c.args.view c.args.correct.now c.args.healer.now }

pub loop-replica-preserved : goal.loop-replica-preserved
loop-replica-preserved c = record {
  origin = c.in_ok-wait_until.ensures.origin ∙ c.loop-replica.invariant.origin;
  came = comes-next c.args.view c.args.correct.now c.loop-replica.replica-index c.replica-item.result
      c.replica-item.result c.args.healer.now c.loop-replica.healer c.wait_until.new.healer
      (omega (arith, c.loop-replica-test.true)) c.replica-item.is c.loop-replica.invariant.came
      c.in_ok-wait_until.ensures.waited;
}

pub returns-clause-came : goal.returns-clause-came
returns-clause-came c =
    comes-all c.args.view c.args.correct.now c.loop-replica.replica-index c.args.healer.now c.loop-replica.healer
    (omega (arith, c.loop-replica-test.false)) c.loop-replica.invariant.came
