use Rattle.audit_ground.proofs.Histories.{backed-histories_agree}
use Rattle.audit.specs.Judged.{judged}
use Rattle.audit.proofs.Held.{are-judged}
use Rattle.audit.proofs.judging.judge.Goals as goal

pub returns-then-histories_agree-clause-verdict : goal.returns-then-histories_agree-clause-verdict
returns-then-histories_agree-clause-verdict c = c.histories_agree.ensures.0 c.if-histories_agree.true

pub returns-in-None-clause-verdict : goal.returns-in-None-clause-verdict
returns-in-None-clause-verdict c =
    let rs = c.args.replicas.now in
    let e = c.are_enough.ensures.0 c.if-not-are_enough.false in
    backed-histories_agree e.sizes (judged rs) (are-judged rs e c.hold.ensures) c.in-None.ensures.1
    c.in-None.ensures.0
