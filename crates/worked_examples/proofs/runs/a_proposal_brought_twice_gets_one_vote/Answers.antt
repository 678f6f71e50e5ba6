-- The lemmas of these names.
use Rattle.worked_examples.proofs.SmallRun.{taken_whole, sends, lengths, answered}
use Rattle.worked_examples.proofs.runs.a_proposal_brought_twice_gets_one_vote.Goals as goal

pub returns : goal.returns
returns c = record { whole = taken_whole; sends = sends; lengths = lengths; answers = answered }
