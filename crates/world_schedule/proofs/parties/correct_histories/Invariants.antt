use Rattle.std.proofs.Common.{◌≡◌}
use Rattle.world_schedule.specs.Outcomes.{told_by}
use Rattle.world_schedule.proofs.parties.correct_histories.Given as goal

abbrev pub invariant-loop-replica : goal.invariant-loop-replica
invariant-loop-replica l = l.histories.items ≡ told_by l.world l.yielded
