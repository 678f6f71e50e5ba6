use Rattle.std.proofs.Common.{◌≡◌, map}
use Rattle.world_schedule.specs.Settings.{with_room}
use Rattle.world_schedule.proofs.world.with_room.Given as goal

abbrev pub invariant-loop-keyring : goal.invariant-loop-keyring
invariant-loop-keyring l = l.all.items ≡ map (with_room l.most_keys) l.yielded
