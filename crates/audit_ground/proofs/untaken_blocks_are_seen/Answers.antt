-- The lemma of this name.
use Rattle.audit_ground.proofs.Fronts.{untaken-blocks_are_seen}
use Rattle.audit_ground.proofs.untaken_blocks_are_seen.Goals as goal

pub returns : goal.returns
returns c = untaken-blocks_are_seen
