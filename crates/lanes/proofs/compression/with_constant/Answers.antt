use Rattle.sha2.specs.Sha256.{add32}
use Rattle.lanes.proofs.ByLane.{both, own, splat}
use Rattle.lanes.proofs.compression.with_constant.Goals as goal

pub returns : goal.returns
returns c = λ j lt. both (λ x y. add32 x y) lt (splat c.args.k j lt) (own j c.fits-w.0)
