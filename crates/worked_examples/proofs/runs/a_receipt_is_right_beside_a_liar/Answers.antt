-- The lemmas of these names.
use Rattle.worked_examples.proofs.LiarRun.{liar_votes, liar_tells, accepts, of_the_cache}
use Rattle.worked_examples.proofs.runs.a_receipt_is_right_beside_a_liar.Goals as goal

pub returns : goal.returns
returns c =
    record { votes = liar_votes; tells = liar_tells; accepted = accepts; reply = of_the_cache }
