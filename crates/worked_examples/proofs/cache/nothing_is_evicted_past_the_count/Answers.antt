-- The definitions compute, with the laws of finite maps.
use Rattle.std.specs.FinMap.{gets as map_laws}
use Rattle.std.specs.Fmt.{digits}
use Rattle.worked_examples.proofs.cache.nothing_is_evicted_past_the_count.Goals as goal

pub returns : goal.returns
unfolding digits
returns c = simp map_laws
