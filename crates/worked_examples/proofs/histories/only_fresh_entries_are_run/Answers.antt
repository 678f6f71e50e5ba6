-- The definitions compute.
use Rattle.std.specs.FinMap.{gets as map_laws}
use Rattle.std.specs.Fmt.{digits}
use Rattle.definitions.specs.Canonical.{request_of}
use Rattle.definitions.specs.Cache.{apply_payload}
use Rattle.definitions.specs.Histories.{is_fresh, cache_after, answers}
use Rattle.worked_examples.proofs.histories.only_fresh_entries_are_run.Goals as goal

pub returns : goal.returns
unfolding digits request_of apply_payload answers is_fresh cache_after
returns c = simp map_laws
