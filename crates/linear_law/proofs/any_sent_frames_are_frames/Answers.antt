-- The lemma of this name.
use Rattle.linear_law.proofs.AnyRuns.{any-sent-are-frames}
use Rattle.linear_law.proofs.any_sent_frames_are_frames.Goals as goal

pub returns : goal.returns
returns c = any-sent-are-frames
