-- The sources so far were read so.
use Rattle.std.proofs.Common.{◌≡◌, List, Option, length, take}
use Rattle.std.specs.List.{AllByRecursion}
use Rattle.definitions.specs.Frames.{Frame}
use Rattle.definitions.specs.Premises.{IsReadFrom}
use Rattle.world_schedule.specs.Schedules.{sources_of}
use Rattle.world_schedule.proofs.running.are_frames.Given as goal

abbrev pub invariant-loop-source : goal.invariant-loop-source
invariant-loop-source l = record {
  reads : List (Option Frame);
  all : length reads ≡ length (take l.source-index l.sources);
  read : AllByRecursion (IsReadFrom l.config) (sources_of reads (take l.source-index l.sources));
}
