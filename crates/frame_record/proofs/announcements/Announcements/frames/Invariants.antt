use Rattle.std.proofs.Common.{◌≡◌, take}
use Rattle.std.specs.List.{filter_map}
use Rattle.frame_record.specs.Announcing.{frame_of}
use Rattle.frame_record.proofs.announcements.Announcements.frames.Given as goal

abbrev pub invariant-loop-newest : goal.invariant-loop-newest
invariant-loop-newest l = l.frames.items ≡ filter_map frame_of (take l.newest-index l.newest-items)
