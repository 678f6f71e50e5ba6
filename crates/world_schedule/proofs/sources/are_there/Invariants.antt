use Rattle.std.proofs.Common.{◌≡◌, true, length, take}
use Rattle.std.specs.List.{list_all}
use Rattle.world_schedule.specs.Schedules.{has_source}
use Rattle.world_schedule.proofs.sources.are_there.Given as goal

abbrev pub invariant-loop-source : goal.invariant-loop-source
invariant-loop-source l = list_all (has_source (length l.sent)) (take l.source-index l.sources) ≡ true
