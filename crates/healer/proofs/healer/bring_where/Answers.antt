use Rattle.ids.specs.Sizes.{client_party}
use Rattle.std.proofs.Common.{ap}
use Rattle.signed_frames.specs.Outs.{to_of}
use Rattle.healer.proofs.Records.{comes-to-all, comes-to-one}
use Rattle.healer.proofs.Turns.{on-ok-too}
use Rattle.healer.proofs.healer.bring_where.Goals as goal

pub returns-in-All-clause-came : goal.returns-in-All-clause-came
returns-in-All-clause-came c =
    on-ok-too _ _ c.bring_to_each.result
    (comes-to-all c.args.frame c.args.correct.now (to_of c.args.to) c.args.healer.now c.bring_to_each.new.healer
    (ap to_of c.in-All.is)) c.bring_to_each.ensures.came

pub returns-in-Replica-clause-came : goal.returns-in-Replica-clause-came
returns-in-Replica-clause-came c =
    on-ok-too _ _ c.bring_all.result
    (comes-to-one c.args.frame c.from.result c.in-Replica.replica c.args.correct.now (to_of c.args.to) c.args.healer.now
    c.bring_all.new.healer (ap to_of c.in-Replica.is) c.from.ensures) c.bring_all.ensures.came

pub returns-in-Client-clause-came : goal.returns-in-Client-clause-came
returns-in-Client-clause-came c =
    on-ok-too _ _ c.bring_all-in-Client.result
    (comes-to-one c.args.frame c.from-in-Client.result (client_party c.in-Client.client) c.args.correct.now
    (to_of c.args.to) c.args.healer.now c.bring_all-in-Client.new.healer (ap to_of c.in-Client.is)
    c.from-in-Client.ensures) c.bring_all-in-Client.ensures.came
