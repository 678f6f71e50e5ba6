use Rattle.std.proofs.Common.{refl, arith, ◌∙◌}
use Rattle.healer.proofs.Asking.{branch-first, branch-next, branch-all}
use Rattle.healer.proofs.fetching.fetch_all.Goals as goal

pub loop-digest-init : goal.loop-digest-init
loop-digest-init c = record {
  origin = refl;
  came = branch-first c.args.correct.now c.args.digests.now c.args.healer.now;
}

pub loop-digest-preserved : goal.loop-digest-preserved
loop-digest-preserved c = record {
  origin = c.in_ok-fetch_for_all.ensures.origin ∙ c.loop-digest.invariant.origin;
  came = branch-next c.args.correct.now c.args.digests.now c.loop-digest.digest-index c.digest-item.result
      c.digest-item.result c.args.healer.now c.loop-digest.healer c.fetch_for_all.new.healer
      (omega (arith, c.loop-digest-test.true)) c.digest-item.is c.loop-digest.invariant.came
      c.in_ok-fetch_for_all.ensures.came;
}

pub returns-clause-came : goal.returns-clause-came
returns-clause-came c =
    branch-all c.args.correct.now c.args.digests.now c.loop-digest.digest-index c.args.healer.now c.loop-digest.healer
    (omega (arith, c.loop-digest-test.false)) c.loop-digest.invariant.came
