-- The definitions compute.
use Rattle.std.proofs.Common.{refl}
use Rattle.definitions.specs.Histories.{is_fresh, answers, last_answer, answer_to}
use Rattle.worked_examples.proofs.histories.only_the_last_number_is_answered_again.Goals as goal

pub returns : goal.returns
unfolding answers is_fresh last_answer answer_to
returns c = (refl, refl, refl)
