use Rattle.healer.proofs.Records.{delivers-none, delivers-some}
use Rattle.healer.proofs.Turns.{on-ok-too}
use Rattle.healer.proofs.healer.deliver.Goals as goal

pub returns-in-Some-clause-came : goal.returns-in-Some-clause-came
returns-in-Some-clause-came c =
    on-ok-too _ _ c.bring_where.result
    (delivers-some c.args.kind c.args.frame c.args.correct.now c.in_ok-receiver.receiver c.in-Some.to c.args.healer.now
    c.bring_where.new.healer c.in_ok-receiver.ensures c.in-Some.is) c.bring_where.ensures.came

pub returns-in-None-clause-came : goal.returns-in-None-clause-came
returns-in-None-clause-came c =
    delivers-none c.args.kind c.args.frame c.args.correct.now c.in_ok-receiver.receiver c.args.healer.now
    c.in_ok-receiver.ensures c.in-None.is
