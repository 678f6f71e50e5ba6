-- The definitions compute, with the laws of finite maps.
use Rattle.std.specs.FinMap.{gets as map_laws, entries-insert}
use Rattle.std.specs.Fmt.{digits}
use Rattle.worked_examples.proofs.Maps.{entries-empty}
use Rattle.worked_examples.proofs.cache.a_cache_of_one_key_evicts.Goals as goal

pub returns : goal.returns
unfolding digits
returns c = simp (map_laws, entries-empty, entries-insert)
