-- What frames cost.
use Rattle.std.proofs.Common.{ℕ, ◌≡◌, ◌≤◌, ◌+◌, not, List, [], ◌∷◌, refl, arith}
use Rattle.std.proofs.Common.{leb, ltb}
use Rattle.std.proofs.lemmas.Bool.{le-leb, lt-leb, le-ltb, lt-ltb, cases_lt}
use Rattle.std.proofs.lemmas.List.Sums.{sum_by-append, sum_by-cons}
use Rattle.std.proofs.lemmas.List.Filters.{sum_by-filter_both}
use Rattle.std.proofs.Common.{inl, inr}
use Rattle.frame_record.specs.declared.recorded.Recorded.{Recorded}
use Rattle.frame_record.specs.Costs.{cost, cost_of, fitting}
use Rattle.frame_record.specs.Recording.{above, inserted, up_to}

-- where they cost no more than they may, none goes
pub fitting-all : (most : ℕ) (rs : List Recorded) → cost rs ≤ most → fitting most rs ≡ rs
fitting-all most [] h = refl
fitting-all most (r ∷ rs) h = let fits = le-leb (cost (r ∷ rs)) most h in rw fits refl

ltb-not_leb : (a b : ℕ) → ltb a b ≡ not (leb b a)
ltb-not_leb a b = elim (cases_lt a b) [
  | inl l ↦ rw (lt-ltb a b l, lt-leb b a l) refl
  | inr l ↦ rw (le-ltb a b l, le-leb b a l) refl
]

pub cost-inserted : (r : Recorded) (rs : List Recorded) → cost (inserted r rs) ≡ cost rs + cost_of r
cost-inserted r rs =
    let both : cost (up_to r.height rs) + cost (above r.height rs) ≡ cost rs =
    sum_by-filter_both (λ x. leb x.height r.height) (λ x. ltb r.height x.height)
    (λ x. ltb-not_leb r.height x.height) cost_of rs in
    let parts : cost (inserted r rs) ≡ cost (up_to r.height rs) + cost (r ∷ above r.height rs) =
    sum_by-append cost_of (up_to r.height rs) (r ∷ above r.height rs) in
    let one : cost (r ∷ above r.height rs) ≡ cost_of r + cost (above r.height rs) =
    sum_by-cons cost_of r (above r.height rs) in
    omega (arith, both, parts, one)
