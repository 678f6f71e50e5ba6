use Rattle.clock.proofs.Lagging.{ends-silences}
use Rattle.clock.proofs.laws.silences_end.Goals as goal

pub returns : goal.returns
returns c = ends-silences
