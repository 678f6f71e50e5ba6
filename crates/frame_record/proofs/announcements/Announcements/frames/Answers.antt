use Rattle.std.proofs.Common.{arith}
use Rattle.std.proofs.lemmas.Grind.{common_steps}
use Rattle.std.proofs.lemmas.List.Elements.{filter_map-append}
use Rattle.frame_record.proofs.announcements.Announcements.frames.Goals as goal

pub loop-newest-preserved : goal.loop-newest-preserved
loop-newest-preserved c = grind (arith, common_steps, filter_map-append)
