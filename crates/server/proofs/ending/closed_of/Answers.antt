use Rattle.std.proofs.Common.{rules, arith, refl, ◌≡◌, ◌+◌, ◌-◌, ◌∙◌}
use Rattle.server.proofs.Others.{others_more}
use Rattle.server.proofs.ending.closed_of.Goals as goal

pub loop-number-preserved-then-number-skipped : goal.loop-number-preserved-then-number-skipped
loop-number-preserved-then-number-skipped c =
    let n = c.loop-number.number-iterator.count - c.args.skipped in
    let at : c.in-Some.number ≡ c.loop-number.number-iterator.count = search rules in
    let next : c.next.new.self.count ≡ c.loop-number.number-iterator.count + 1 = search rules in
    let is = c.if-not-is_of.ensures refl in (
      search rules,
      search rules,
      search rules,
      search rules,
      others_more c.args.config c.args.skipped n _ _ _ c.in-Ok.closed.replica c.push_reserved.ensures.items
          c.loop-number.invariant.4 (is.0, is.1 ∙ at ∙ omega (arith, c.if-number-skipped.true, at))
          (omega (arith, c.if-number-skipped.true, at, next)),
      search rules,
    )
