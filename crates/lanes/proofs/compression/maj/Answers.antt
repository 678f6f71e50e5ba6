use Rattle.lanes.proofs.ByLane.{both, own}
use Rattle.lanes.proofs.compression.maj.Goals as goal

pub returns : goal.returns
returns c = λ j lt.
    let x = own j c.fits-x.0 in
    let y = own j c.fits-y.0 in
    let z = own j c.fits-z.0 in
    both _ lt (both _ lt (both _ lt x y) (both _ lt x z)) (both _ lt y z)
