-- The run that is wedged and healed, computed.
use Rattle.std.proofs.Common.{refl}
use Rattle.worked_examples.specs.Healing.{IsWedged, IsOffered, IsGathered, CopiesPass}
use Rattle.worked_examples.specs.Healing.{OffersPass}
use Rattle.worked_examples.proofs.Computed.{of_runs}

pub is_wedged : IsWedged
unfolding of_runs
is_wedged = refl

pub is_offered : IsOffered
unfolding of_runs
is_offered = (refl, refl, refl)

pub is_gathered : IsGathered
unfolding of_runs
is_gathered = (refl, refl)

pub copies_pass : CopiesPass
unfolding of_runs
copies_pass = (refl, refl, refl, refl, refl, refl)

pub offers_pass : OffersPass
unfolding of_runs
offers_pass = (refl, refl, refl)
