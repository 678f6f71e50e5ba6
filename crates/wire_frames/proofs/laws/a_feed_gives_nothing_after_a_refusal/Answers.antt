use Rattle.wire_frames.proofs.Streams.{nothing_more}
use Rattle.wire_frames.proofs.laws.a_feed_gives_nothing_after_a_refusal.Goals as goal

pub returns : goal.returns
returns c = nothing_more
