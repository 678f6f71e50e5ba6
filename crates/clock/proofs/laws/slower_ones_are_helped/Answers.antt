use Rattle.clock.proofs.Slower.{helps-slower}
use Rattle.clock.proofs.laws.slower_ones_are_helped.Goals as goal

pub returns : goal.returns
returns c = helps-slower
