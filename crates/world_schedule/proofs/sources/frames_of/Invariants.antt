use Rattle.std.proofs.Common.{take}
use Rattle.world_schedule.specs.Sources.{AreBytesOf}
use Rattle.world_schedule.proofs.sources.frames_of.Given as goal

abbrev pub invariant-loop-source : goal.invariant-loop-source
invariant-loop-source l = AreBytesOf l.sent (take l.source-index l.sources) l.frames.items
