-- `Versions` has it.
use Rattle.worked_examples.proofs.Versions.{both}
use Rattle.worked_examples.proofs.frames.both_versions_are_read_with_four_replicas.Goals as goal

pub returns : goal.returns
returns c = both
