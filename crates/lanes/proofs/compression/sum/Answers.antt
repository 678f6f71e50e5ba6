use Rattle.lanes.proofs.ByLane.{both, own}
use Rattle.lanes.proofs.compression.sum.Goals as goal

pub returns : goal.returns
returns c = λ j lt. both _ lt (own j c.fits-x.0) (own j c.fits-y.0)
