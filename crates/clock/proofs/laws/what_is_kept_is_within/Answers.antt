use Rattle.clock.proofs.Slower.{keeps-within}
use Rattle.clock.proofs.laws.what_is_kept_is_within.Goals as goal

pub returns : goal.returns
returns c = keeps-within
