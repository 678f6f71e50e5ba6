-- The oldest steps of a chronicle, and the step behind them.
use Rattle.std.proofs.Common.{ℕ, ◌≡◌, ◌+◌, ◌<◌, ◌≤◌, List, [], ◌∷◌, length, refl, sym, ap, ◌∙◌, arith, Option}
use Rattle.std.proofs.Common.{None}
use Rattle.std.proofs.Common.{Some, add-one}
use Rattle.std.specs.Prelude.{MatchOption}
use Rattle.std.proofs.lemmas.Bool.{cond-true, lt-ltb}
use Rattle.definitions.specs.Lists.{beginning}
use Rattle.definitions.specs.Audit.{step_after}
use Rattle.audit_ground.proofs.Lists.{step_after-some, extend, beginning-next, beginning-older}

-- of no more than so many, all are the oldest so many
pub beginning-all : {A : Type 0} (k : ℕ) (xs : List A) → length xs ≤ k → beginning k xs ≡ xs
unfolding beginning
beginning-all k [] l = refl
beginning-all k (x ∷ older) l = cond-true _ _ _ (lt-ltb (length older) k (omega arith))

-- where there are more, the newest isn't among them
beginning-less : {A : Type 0} (k : ℕ) (xs older : List A) (x : A) → k < length xs → xs ≡ x ∷ older
    → beginning k older ≡ beginning k xs
beginning-less {A} k xs older x l e =
    let n = ap (λ (ys : List A). length ys) e in
    sym (beginning-older k x older (omega (arith, n, l))) ∙ ap (beginning k) (sym e)

-- so it is of what a call of `next` leaves
pub beginning-left : {A : Type 0} (k : ℕ) (old new : List A) (r : Option A) → k < length old
    → MatchOption r ((old ≡ []) × (new ≡ [])) (λ x. old ≡ x ∷ new) → beginning k new ≡ beginning k old
beginning-left {A} k old new None l h =
    absurd (let e = ap (λ (ys : List A). length ys) h.0 in omega (arith, e, l))
beginning-left k old new (Some x) l h = beginning-less k old new x l h

-- the newest of one more is the step behind
pub step-behind : {A : Type 0} (k : ℕ) (xs front : List A) → k < length xs → front ≡ beginning (k + 1) xs
    → (r : Option A) (rest : List A) → MatchOption r ((front ≡ []) × (rest ≡ [])) (λ x. front ≡ x ∷ rest)
    → r ≡ step_after k xs
step-behind {A} k xs front l e r rest h = by r h
  where
    s : (x : A) × (step_after k xs ≡ Some x)
    s = step_after-some k xs l

    is : s.0 ∷ beginning k xs ≡ front
    is =
        ap (λ (o : Option A). extend o (beginning k xs)) (sym s.1)
        ∙ (beginning-next k xs ∙ (ap (λ (n : ℕ). beginning n xs) (sym (add-one k)) ∙ sym e))

    by : (o : Option A) → MatchOption o ((front ≡ []) × (rest ≡ [])) (λ x. front ≡ x ∷ rest)
        → o ≡ step_after k xs
    by None g = let n : s.0 ∷ beginning k xs ≡ [] = is ∙ g.0 in absurd (cc)
    by (Some x) g =
        let n : s.0 ∷ beginning k xs ≡ x ∷ rest = is ∙ g in
        let same : x ≡ s.0 = cc in ap (λ (y : A). Some y) same ∙ sym s.1
