-- The lemma of this name.
use Rattle.audit_ground.proofs.Stored.{stored-blocks_are_named}
use Rattle.audit_ground.proofs.stored_blocks_are_named.Goals as goal

pub returns : goal.returns
returns c = stored-blocks_are_named
