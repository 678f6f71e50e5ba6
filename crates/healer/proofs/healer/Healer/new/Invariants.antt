use Rattle.std.proofs.Common.{take}
use Rattle.world_schedule.specs.Progress.{HasRun}
use Rattle.healer.proofs.healer.Healer.new.Given as goal

abbrev pub invariant-loop-event : goal.invariant-loop-event
invariant-loop-event l = HasRun l.world (take l.event-index l.schedule) l.running
