use Rattle.std.proofs.Common.{◌∙◌}
use Rattle.healer.proofs.Making.{bursts}
use Rattle.healer.proofs.blocks.burst.Goals as goal

pub returns-clause-came : goal.returns-clause-came
returns-clause-came c =
    bursts c.args.count c.args.leader c.sent-before.result c.args.correct.now c.deref.result.now
    c.deref-2.result.now c.args.healer.now c.make_blocks.new.healer c.offer_to_each.new.healer
    c.offer_to_each.result c.sent-before.ensures c.in_ok-make_blocks.ensures.made (λ hs w t. c.deref-2.ensures.value ∙ c.in_ok-proposals.ensures hs w t)
    (c.deref.ensures.value ∙ c.in_ok-others.ensures) c.offer_to_each.ensures.came
