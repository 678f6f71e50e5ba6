use Rattle.lanes.proofs.ByLane.{both, each, own}
use Rattle.lanes.proofs.compression.ch.Goals as goal

pub returns : goal.returns
returns c = λ j lt.
    let x = own j c.fits-x.0 in
    both _ lt (both _ lt x (own j c.fits-y.0)) (both _ lt (each _ lt x) (own j c.fits-z.0))
