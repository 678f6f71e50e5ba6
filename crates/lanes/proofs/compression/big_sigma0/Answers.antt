use Rattle.lanes.proofs.ByLane.{both}
use Rattle.lanes.proofs.compression.big_sigma0.Goals as goal

pub returns : goal.returns
returns c = λ j lt. both _ lt (both _ lt (c.rotated.ensures j lt) (c.rotated-2.ensures j lt)) (c.rotated-3.ensures j lt)
