use Rattle.world_schedule.specs.Seats.{EachBelow, IsNewSession}
use Rattle.world_schedule.proofs.parties.new_sessions.Given as goal

abbrev pub invariant-loop-i : goal.invariant-loop-i
invariant-loop-i l = EachBelow (IsNewSession l.world) l.i l.sessions.items
