-- Of more than may lie, one doesn't.
use Rattle.std.proofs.Common.{ℕ, suc, ◌≡◌, ◌+◌, ◌-◌, ◌<◌, ◌≤◌, Bool, true, false, cond, List, [], ◌∷◌, refl, arith}
use Rattle.std.proofs.Common.{count_by, leb}
use Rattle.std.specs.Prelude.{Any}
use Rattle.std.proofs.lemmas.Bool.{leb-true}
use Rattle.std.proofs.lemmas.List.Sums.{sum_by-cons}
use Rattle.catching_up.specs.Laws.{ACorrectOneTold, Teller}

abbrev liars : List Teller → ℕ
liars ts = count_by (λ t. t.lies) ts

abbrev backers : (height : ℕ) → List Teller → ℕ
backers height ts = count_by (λ t. leb height t.height) ts

abbrev Told : (height : ℕ) → List Teller → Type 0
Told height ts = Any (λ t. (height ≤ t.height) × (t.lies ≡ false)) ts

later : (height : ℕ) (t : Teller) (ts : List Teller) → Told height ts → Told height (t ∷ ts)
later height t ts h = (suc h.0, h.1, omega (arith, h.2), h.3, h.4)

one-more : (faults height : ℕ) (t : Teller) (ts : List Teller) (lies backs : Bool) → t.lies ≡ lies
    → leb height t.height ≡ backs → ((f : ℕ) → liars ts ≤ f → f < backers height ts → Told height ts)
    → cond lies 1 0 + liars ts ≤ faults → faults < cond backs 1 0 + backers height ts → Told height (t ∷ ts)
one-more faults height t ts false true e g rest few many =
    (0, t, omega arith, refl, (leb-true height t.height g, e))
one-more faults height t ts false false e g rest few many =
    later height t ts (rest faults (omega (arith, few)) (omega (arith, many)))
one-more faults height t ts true true e g rest few many =
    later height t ts (rest (faults - 1) (omega (arith, few)) (omega (arith, few, many)))
one-more faults height t ts true false e g rest few many =
    later height t ts (rest (faults - 1) (omega (arith, few)) (omega (arith, few, many)))

pub a-correct-one-told : ACorrectOneTold
a-correct-one-told faults height [] few many =
    let none : backers height [] ≡ 0 = refl in absurd (omega (arith, many, none))
a-correct-one-told faults height (t ∷ ts) few many =
    let lying : liars (t ∷ ts) ≡ cond t.lies 1 0 + liars ts = sum_by-cons (λ (x : Teller). cond x.lies 1 0) t ts in
    let backing : backers height (t ∷ ts) ≡ cond (leb height t.height) 1 0 + backers height ts =
    sum_by-cons (λ (x : Teller). cond (leb height x.height) 1 0) t ts in
    one-more faults height t ts t.lies (leb height t.height) refl refl
    (λ f l m. a-correct-one-told f height ts l m)
    (omega (arith, few, lying)) (omega (arith, many, backing))
