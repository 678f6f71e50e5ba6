use Rattle.std.proofs.Common.{◌∙◌}
use Rattle.healer.proofs.Making.{makes-block}
use Rattle.healer.proofs.blocks.make_block.Goals as goal

pub returns-clause-made : goal.returns-clause-made
returns-clause-made c =
    makes-block c.args.leader c.sent-before.result c.deref.result.now c.args.healer.now c.take.new.self
    c.offer_to_each.new.healer c.offer_to_each.result c.sent-before.ensures c.in_ok-take.ensures.taken
    (λ hs w t. c.deref.ensures.value ∙ c.in_ok-proposals.ensures hs w t) c.offer_to_each.ensures.came
