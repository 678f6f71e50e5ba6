use Rattle.std.proofs.Common.{◌∙◌, sym, arith}
use Rattle.audit.proofs.Oldest.{beginning-left, beginning-all}
use Rattle.audit.proofs.chronicles.oldest.Goals as goal

pub loop-rest-preserved : goal.loop-rest-preserved
loop-rest-preserved c =
    beginning-left c.args.count c.loop-rest.rest c.next.new.self c.next.result
    (omega (arith, c.loop-rest-test.true, c.len.ensures)) c.next.ensures.steps ∙ c.loop-rest.invariant

pub returns : goal.returns
returns c =
    sym (beginning-all c.args.count c.loop-rest.rest (omega (arith, c.loop-rest-test.false, c.len.ensures)))
    ∙ c.loop-rest.invariant
