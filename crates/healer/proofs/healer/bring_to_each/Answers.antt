use Rattle.std.proofs.Common.{refl, arith, ◌∙◌}
use Rattle.healer.proofs.Phases.{brings-first, brings-next, brings-all}
use Rattle.healer.proofs.healer.bring_to_each.Goals as goal

pub loop-replica-init : goal.loop-replica-init
loop-replica-init c = record {
  origin = refl;
  came = brings-first c.args.replicas.now c.args.frames.now c.args.healer.now;
}

pub loop-replica-preserved : goal.loop-replica-preserved
loop-replica-preserved c = record {
  origin = c.in_ok-bring_all.ensures.origin ∙ c.loop-replica.invariant.origin;
  came = brings-next c.args.replicas.now c.args.frames.now c.loop-replica.replica-index
      c.replica-item.result c.from.result
      c.args.healer.now c.loop-replica.healer c.bring_all.new.healer (omega (arith, c.loop-replica-test.true))
      (c.from.ensures ∙ c.replica-item.is) c.loop-replica.invariant.came c.in_ok-bring_all.ensures.came;
}

pub returns-clause-came : goal.returns-clause-came
returns-clause-came c =
    brings-all c.args.replicas.now c.args.frames.now c.loop-replica.replica-index c.args.healer.now
    c.loop-replica.healer (omega (arith, c.loop-replica-test.false)) c.loop-replica.invariant.came
