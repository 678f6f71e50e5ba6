-- `Versions` has it.
use Rattle.worked_examples.proofs.Versions.{fourth}
use Rattle.worked_examples.proofs.frames.a_fourth_vote_is_read_in_version_one_alone.Goals as goal

pub returns : goal.returns
returns c = fourth
