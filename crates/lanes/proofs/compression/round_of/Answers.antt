use Rattle.std.proofs.Common.{ℕ, List, [], ◌∷◌, slice_index, ap₂}
use Rattle.lanes.proofs.ByLane.{both, keyed, own, same}
use Rattle.lanes.proofs.compression.round_of.Goals as goal

pub returns : goal.returns
returns c = λ j k w lt e.
    let sum = both _ lt (both _ lt (both _ lt (own j c.fits-h.0) (c.big_sigma1.ensures j lt)) (c.ch.ensures j lt)) (own j c.fits-kw.0) in
    let temp1 = same sum (keyed _ k w _ e) in
    let temp2 = both _ lt (c.big_sigma0.ensures j lt) (c.maj.ensures j lt) in
    let at = λ (v : List ℕ). slice_index v j in
    ap₂ (λ (x y : ℕ). x ∷ at c.args.a ∷ at c.args.b ∷ at c.args.c ∷ y ∷ at c.args.e ∷ at c.args.f ∷ at c.args.g ∷ [])
    (both _ lt temp1 temp2).is (both _ lt (own j c.fits-d.0) temp1).is
