-- The lemma of this name.
use Rattle.audit_ground.proofs.Fork.{some-fork}
use Rattle.audit_ground.proofs.some_fork.Goals as goal

pub returns : goal.returns
returns c = some-fork
