-- Three votes verify, and stand in front of what is left.
use Rattle.worked_examples.proofs.Versions.{all-verify, others-verify}
use Rattle.worked_examples.proofs.frames.the_first_quorum_is_passed_on.Goals as goal

pub returns-clause-all : goal.returns-clause-all
returns-clause-all c = all-verify

pub returns-clause-others : goal.returns-clause-others
returns-clause-others c = others-verify
