-- The definitions compute.
use Rattle.std.proofs.Common.{refl}
use Rattle.std.specs.Fmt.{digits}
use Rattle.definitions.specs.Lists.{greatest}
use Rattle.definitions.specs.Canonical.{request_of}
use Rattle.definitions.specs.Cache.{apply_payload}
use Rattle.definitions.specs.Histories.{is_fresh, last_seq, cache_after, answers}
use Rattle.worked_examples.proofs.histories.repeated_and_skipped_numbers_are_not_fresh.Goals as goal

pub returns-clause-answers : goal.returns-clause-answers
unfolding digits request_of apply_payload answers is_fresh cache_after
returns-clause-answers c = refl

pub returns-clause-last : goal.returns-clause-last
unfolding last_seq greatest
returns-clause-last c = (refl, refl, refl)
