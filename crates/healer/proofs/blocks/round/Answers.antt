use Rattle.std.proofs.Common.{◌∙◌}
use Rattle.healer.proofs.Making.{round-goes}
use Rattle.healer.proofs.blocks.round.Goals as goal

pub returns-clause-came : goal.returns-clause-came
returns-clause-came c =
    round-goes c.args.count c.args.leader c.sent-before.result c.args.correct.now c.deref.result.now
    c.args.healer.now c.burst.new.healer c.bring_to_each.new.healer c.bring_to_each.result c.sent-before.ensures
    c.in_ok-burst.ensures.came (λ hs w t. c.deref.ensures.value ∙ c.in_ok-votes.ensures hs w t) c.bring_to_each.ensures.came
