use Rattle.world_schedule.proofs.Seated.{one_more}
use Rattle.world_schedule.proofs.parties.new_sessions.Goals as goal

pub loop-i-preserved : goal.loop-i-preserved
loop-i-preserved c =
    rw c.in_ok-push.ensures.items (one_more _ _ _ _ c.loop-i.invariant c.in_ok-session.ensures.made)
