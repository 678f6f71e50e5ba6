use Rattle.healer.proofs.Agreeing.{agrees-on}
use Rattle.healer.proofs.heal.agree_on.Goals as goal

pub returns-clause-came : goal.returns-clause-came
returns-clause-came c =
    agrees-on c.args.request c.highest_locked-leader.result c.in_ok-ground.ground.height c.in_ok-ground.ground.lock
    c.args.correct.now c.in_ok-ground.ground.digests.items c.args.healer.now c.agree_under.new.healer
    c.agree_under.result c.highest_locked-leader.ensures c.in_ok-ground.ensures c.agree_under.ensures.came
