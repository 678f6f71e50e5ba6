use Rattle.line_feed.proofs.Streams.{end_again}
use Rattle.line_feed.proofs.laws.a_feed_gives_the_end_again.Goals as goal

pub returns : goal.returns
returns c = end_again
