use Rattle.std.proofs.Common.{◌≡◌, ◌≤◌}
use Rattle.definitions.specs.Lists.{count_below}
use Rattle.world_schedule.specs.Settings.{is_named}
use Rattle.world_schedule.proofs.world.count_replicas.Given as goal

abbrev pub invariant-loop-replica : goal.invariant-loop-replica
invariant-loop-replica l = (l.count ≡ count_below l.replica (is_named l.parties)) × (l.count ≤ l.replica)
