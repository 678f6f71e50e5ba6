-- The lemma of this name.
use Rattle.linear_law.proofs.WholeRuns.{sent-are-read}
use Rattle.linear_law.proofs.sent_frames_are_read.Goals as goal

pub returns : goal.returns
returns c = sent-are-read
