use Rattle.wire_frames.proofs.Lengths.{none_is_longer}
use Rattle.wire_frames.proofs.laws.no_frame_is_longer.Goals as goal

pub returns : goal.returns
returns c = none_is_longer
