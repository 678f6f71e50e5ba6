use Rattle.lanes.proofs.ByLane.{both, own, splat}
use Rattle.lanes.proofs.compression.small_sigma1.Goals as goal

pub returns : goal.returns
returns c = λ j lt.
    both _ lt (both _ lt (c.rotated.ensures j lt) (c.rotated-2.ensures j lt)) (both _ lt (own j c.fits-x.0) (splat _ j lt))
