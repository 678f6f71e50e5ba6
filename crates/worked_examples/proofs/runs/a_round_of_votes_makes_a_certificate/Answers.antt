-- The lemmas of these names.
use Rattle.worked_examples.proofs.Rounds.{sent_sizes, sent_in}
use Rattle.worked_examples.proofs.runs.a_round_of_votes_makes_a_certificate.Goals as goal

pub returns : goal.returns
returns c = record { sizes = sent_sizes; events = sent_in }
