use Rattle.world_schedule.specs.Seats.{EachBelow, IsNewReplica}
use Rattle.world_schedule.proofs.parties.new_replicas.Given as goal

abbrev pub invariant-loop-i : goal.invariant-loop-i
invariant-loop-i l = EachBelow (IsNewReplica l.world) l.i l.replicas.items
