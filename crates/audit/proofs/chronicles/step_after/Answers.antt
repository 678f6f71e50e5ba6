use Rattle.std.proofs.Common.{sym, arith}
use Rattle.audit_ground.proofs.Lists.{step_after-none}
use Rattle.audit.proofs.Oldest.{step-behind}
use Rattle.audit.proofs.chronicles.step_after.Goals as goal

pub returns-then-len-count-clause-step : goal.returns-then-len-count-clause-step
returns-then-len-count-clause-step c =
    sym (step_after-none c.args.count c.args.chronicle (omega (arith, c.if-len-count.true, c.len.ensures)))

pub returns-clause-step : goal.returns-clause-step
returns-clause-step c =
    step-behind c.args.count c.args.chronicle c.oldest.result
    (omega (arith, c.if-len-count.false, c.len.ensures)) c.oldest.ensures c.next.result c.next.new.self
    c.next.ensures.steps
