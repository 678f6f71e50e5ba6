use Rattle.lanes.proofs.ByLane.{both, own}
use Rattle.lanes.proofs.compression.next_word.Goals as goal

pub returns : goal.returns
returns c = λ j lt.
    both _ lt (both _ lt (both _ lt (c.small_sigma1.ensures j lt) (own j c.fits-w7.0)) (c.small_sigma0.ensures j lt)) (own j c.fits-w16.0)
