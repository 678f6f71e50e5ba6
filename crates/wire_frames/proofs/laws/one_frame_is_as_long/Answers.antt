use Rattle.wire_frames.proofs.AsLong.{one_is_as_long}
use Rattle.wire_frames.proofs.laws.one_frame_is_as_long.Goals as goal

pub returns : goal.returns
returns c = one_is_as_long
