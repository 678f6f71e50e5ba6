-- `Versions` has it.
use Rattle.worked_examples.proofs.Versions.{alone}
use Rattle.worked_examples.proofs.frames.version_two_alone_is_read_with_sixteen_replicas.Goals as goal

pub returns : goal.returns
returns c = alone
