use Rattle.std.proofs.Common.{refl, arith, ◌∙◌}
use Rattle.healer.proofs.Waits.{waits-first, waits-next, waits-until, waits-as}
use Rattle.healer.proofs.views.wait_from.Goals as goal

pub loop-passed-init : goal.loop-passed-init
loop-passed-init c = record {
  origin = refl;
  within = λ l. refl;
  waited = waits-first c.args.replica c.from.inside.0 c.args.healer.now;
}

pub loop-passed-preserved : goal.loop-passed-preserved
loop-passed-preserved c = record {
  origin = c.in_ok-take.ensures.origin ∙ c.loop-passed.invariant.origin;
  within = λ l. let no : ⊥ = omega (arith, l, c.loop-passed-test.true, c.loop-passed.auto._passed) in absurd no;
  waited = waits-next c.args.replica c.from.inside.0 c.loop-passed._passed c.args.healer.now c.loop-passed.healer
      c.take.new.self c.loop-passed.auto._passed c.loop-passed.invariant.waited c.in_ok-take.ensures.taken;
}

pub returns-clause-waited : goal.returns-clause-waited
returns-clause-waited c =
    waits-as c.args.replica c.args.from c.args.view c.from.inside.0 c.view.inside.0 c.args.healer.now c.loop-passed.healer
    c.from.view_is c.view.view_is
    (waits-until c.args.replica c.from.inside.0 c.loop-passed._passed c.view.inside.0 c.args.healer.now
    c.loop-passed.healer c.loop-passed.auto._passed (omega (arith, c.loop-passed-test.false))
    c.loop-passed.auto._passed-end c.loop-passed.invariant.waited c.loop-passed.invariant.within)
