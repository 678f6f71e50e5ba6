-- The lemma of this name.
use Rattle.linear_law.proofs.WholeRuns.{sent-are-frames}
use Rattle.linear_law.proofs.sent_frames_are_frames.Goals as goal

pub returns : goal.returns
returns c = sent-are-frames
