-- The lemma of this name.
use Rattle.audit_ground.proofs.Fronts.{unbacked-votes_are_seen}
use Rattle.audit_ground.proofs.unbacked_votes_are_seen.Goals as goal

pub returns : goal.returns
returns c = unbacked-votes_are_seen
