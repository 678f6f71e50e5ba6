use Rattle.std.proofs.Common.{[]}
use Rattle.wire_frames.proofs.Streams.{given_of_pushed}
use Rattle.wire_frames.proofs.laws.a_feed_gives_what_was_pushed.Goals as goal

pub returns : goal.returns
returns c = λ longest calls held. given_of_pushed longest calls [] held
