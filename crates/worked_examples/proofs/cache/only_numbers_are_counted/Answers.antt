-- The definitions compute, with the laws of finite maps.
use Rattle.std.specs.FinMap.{gets as map_laws}
use Rattle.std.specs.Fmt.{digits}
use Rattle.worked_examples.proofs.cache.only_numbers_are_counted.Goals as goal

pub returns-clause-letters : goal.returns-clause-letters
unfolding digits
returns-clause-letters c = simp map_laws

pub returns-clause-padded : goal.returns-clause-padded
unfolding digits
returns-clause-padded c = simp map_laws
