-- The steps of several replicas in one order: votes stay.
use Rattle.definitions.proofs.Chronicles.{voted-grows}
use Rattle.std.proofs.Common.{ℕ, ◌∷◌, ◌==◌}
use Rattle.std.proofs.lemmas.Bool.{cond_both}
use Rattle.definitions.specs.Lists.{Among}
use Rattle.definitions.specs.Branches.{Branch}
use Rattle.definitions.specs.Chronicles.{Step, Chronicle, voted_blocks}
use Rattle.definitions.specs.Agreement.{Order, steps_of}

pub order-grows : (q : ℕ) (st : Step) (o : Order) (v : ℕ) (b : Branch) → Among b (voted_blocks (steps_of v o))
    → Among b (voted_blocks (steps_of v ((q, st) ∷ o)))
unfolding steps_of
order-grows q st o v b m = cond_both (q == v) (st ∷ steps_of v o) (steps_of v o)
    (λ (c : Chronicle). Among b (voted_blocks c)) (λ e. voted-grows st (steps_of v o) b m) (λ e. m)
