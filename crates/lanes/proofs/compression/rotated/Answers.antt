use Rattle.lanes.proofs.ByLane.{both, own, rotation, same, splat}
use Rattle.lanes.proofs.compression.rotated.Goals as goal

pub returns : goal.returns
returns c = λ j lt.
    let x = own j c.fits-x.0 in
    same (both _ lt (both _ lt x (splat _ j lt)) (both _ lt x (splat _ j lt))) (rotation _ c.args.by c.requires.low c.requires.high)
