-- The definitions compute, with the laws of finite maps.
use Rattle.std.specs.FinMap.{gets as map_laws}
use Rattle.std.specs.Fmt.{digits}
use Rattle.worked_examples.proofs.cache.no_change_is_made_past_the_count.Goals as goal

pub returns : goal.returns
unfolding digits
returns c = simp map_laws
