use Rattle.line_feed.proofs.Streams.{given_from_first}
use Rattle.line_feed.proofs.laws.a_feed_gives_what_was_pushed.Goals as goal

pub returns : goal.returns
returns c = given_from_first
