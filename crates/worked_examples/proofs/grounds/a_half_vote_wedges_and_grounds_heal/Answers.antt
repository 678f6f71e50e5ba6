-- The lemmas of these names.
use Rattle.worked_examples.proofs.Healing.{is_wedged, is_offered, is_gathered}
use Rattle.worked_examples.proofs.grounds.a_half_vote_wedges_and_grounds_heal.Goals as goal

pub returns : goal.returns
returns c = record { wedged = is_wedged; offered = is_offered; gathered = is_gathered }
