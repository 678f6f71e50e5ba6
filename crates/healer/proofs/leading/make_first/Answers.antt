use Rattle.std.proofs.Common.{arith, ◌∙◌}
use Rattle.healer.proofs.Firsts.{first-made, first-passed, genesis-is}
use Rattle.healer.proofs.leading.make_first.Goals as goal

pub returns-then-over-gt0-clause-came : goal.returns-then-over-gt0-clause-came
returns-then-over-gt0-clause-came c =
    let v = c.over.view_is in
    first-passed c.args.leader c.args.over c.args.correct.now c.args.healer.now (omega (arith, v, c.if-over-gt0.true))

pub returns-clause-came : goal.returns-clause-came
returns-clause-came c =
    let v = c.over.view_is in
    first-made c.args.leader c.args.over c.sent-before.result c.genesis_digest-block.result c.args.correct.now
    c.deref.result.now c.deref-2.result.now c.args.healer.now c.take.new.self
    c.take-2.new.self c.bring_to_each.new.healer c.bring_to_each.result (omega (arith, v, c.if-over-gt0.false))
    (genesis-is c.genesis_digest-block.result c.genesis_digest-block.ensures) c.sent-before.ensures
    c.in_ok-take.ensures.taken c.in_ok-take-2.ensures.taken (λ hs w t. c.deref-2.ensures.value ∙ c.in_ok-proposals.ensures hs w t) (λ hs w t x. c.deref.ensures.value ∙ c.in_ok-newcomers.ensures hs w t x)
    c.bring_to_each.ensures.came
