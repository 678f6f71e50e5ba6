use Rattle.std.proofs.Common.{refl, arith, ◌∙◌}
use Rattle.healer.proofs.Asking.{fetches-first, fetches-next, fetches-all}
use Rattle.healer.proofs.fetching.fetch_for_all.Goals as goal

pub loop-replica-init : goal.loop-replica-init
loop-replica-init c = record {
  origin = refl;
  came = fetches-first c.args.block c.args.correct.now c.deref-replica-items.result.now c.args.healer.now;
}

pub loop-replica-preserved : goal.loop-replica-preserved
loop-replica-preserved c = record {
  origin = c.in_ok-fetch_block.ensures.origin ∙ c.loop-replica.invariant.origin;
  came = fetches-next c.args.block c.args.correct.now c.deref-replica-items.result.now c.loop-replica.replica-index
      c.replica-item.result c.replica-item.result c.args.healer.now c.loop-replica.healer c.fetch_block.new.healer
      (omega (arith, c.loop-replica-test.true)) c.replica-item.is c.loop-replica.invariant.came
      c.in_ok-fetch_block.ensures.came;
}

pub returns-clause-came : goal.returns-clause-came
returns-clause-came c =
    fetches-all c.args.block c.args.correct.now c.deref-replica-items.result.now c.loop-replica.replica-index
    c.args.healer.now c.loop-replica.healer (omega (arith, c.loop-replica-test.false)) (λ hs w t x. c.deref-replica-items.ensures.value ∙ c.in_ok-lacking.ensures hs w t x)
    c.loop-replica.invariant.came
