-- The lemmas of these names.
use Rattle.worked_examples.proofs.ForgedForOne.{is_refused, is_forged}
use Rattle.worked_examples.proofs.grounds.a_tag_is_forged_for_one.Goals as goal

pub returns : goal.returns
returns c = record { refused = is_refused; forged = is_forged }
