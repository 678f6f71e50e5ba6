-- What holds of each element, and lists that are beginnings of one another.
use Rattle.std.proofs.Common.{◌≡◌, ◌⊎◌, ◌↔◌, ◌<◌, ℕ, Bool, true, false, IsTrue, List, [], ◌∷◌, ◌++◌}
use Rattle.std.proofs.Common.{length, reverse, refl, sym, ap, subst, ◌∙◌, inl, inr, MatchBool}
use Rattle.std.specs.List.{All, AllByRecursion, AllWithin, HoldsAt, zip}
use Rattle.std.proofs.lemmas.Bool.{false≢true}
use Rattle.std.proofs.lemmas.Iterator.Search.{true_from_All}
use Rattle.std.proofs.lemmas.List.{reverse-append, reverse-reverse}
use Rattle.std.proofs.lemmas.List.Elements.{All-head, All-tail, All-nil, All-cons, All-from_recursion}
use Rattle.std.proofs.lemmas.List.Elements.{recursion_from_All, All-from_all_within}
use Rattle.definitions.specs.Lists.{Among, IsBeginning}

-- what holds of each element holds of one
pub each-holds : {A : Type 0} (P : A → Type 0) (xs : List A) → All P xs → (x : A) → Among x xs → P x
each-holds P [] h x m = absurd m
each-holds P (y ∷ xs) h x (inl e) = subst P (sym e) (All-head P y xs h)
each-holds P (y ∷ xs) h x (inr m) = each-holds P xs (All-tail P y xs h) x m

-- and back
pub All-from_each : {A : Type 0} (P : A → Type 0) (xs : List A) → ((x : A) → Among x xs → P x) → All P xs
All-from_each P [] h = All-nil P
All-from_each P (x ∷ xs) h = All-cons P x xs (h x (inl refl)) (All-from_each P xs (λ y m. h y (inr m)))

-- what a test for each element answers
pub each-exactly : {A : Type 0} (P : A → Type 0) (xs : List A) (r : Bool)
    → MatchBool r (AllWithin P xs 0 (length xs)) ((k : ℕ) × (k < length xs) × HoldsAt (λ x. P x → ⊥) xs k)
    → IsTrue r ↔ All P xs
each-exactly P xs r h = (passed r h, true_from_All P (λ x. P x → ⊥) r xs (λ x p n. n p) h)
  where
    passed : (r : Bool)
        → MatchBool r (AllWithin P xs 0 (length xs)) ((k : ℕ) × (k < length xs) × HoldsAt (λ x. P x → ⊥) xs k)
        → IsTrue r → All P xs
    passed true h t = All-from_all_within P xs h
    passed false h t = absurd (false≢true t)

-- the list goes on with more, oldest first
abbrev GoesOn : {A : Type 0} → List A → List A → Type 0
GoesOn {A} xs ys = (rest : List A) × (xs ++ rest ≡ ys)

-- newest first it is a beginning
beginning-from_more : {A : Type 0} (xs ys : List A) → GoesOn xs ys → IsBeginning (reverse xs) (reverse ys)
beginning-from_more xs ys g = (reverse g.0, sym (reverse-append xs g.0) ∙ ap reverse g.1)

-- and back
more-from_beginning : {A : Type 0} (xs ys : List A) → IsBeginning (reverse xs) (reverse ys) → GoesOn xs ys
more-from_beginning xs ys b = (
  reverse b.0,
  ap (λ l. l ++ reverse b.0) (sym (reverse-reverse xs))
      ∙ (sym (reverse-append b.0 (reverse xs)) ∙ (ap reverse b.1 ∙ reverse-reverse ys)),
)

-- the same element before both
more-cons : {A : Type 0} (x y : A) (xs ys : List A) → x ≡ y → GoesOn xs ys → GoesOn (x ∷ xs) (y ∷ ys)
more-cons x y xs ys e g = (g.0, λ i. e i ∷ g.1 i)

-- two elements are the same
abbrev pub AreSame : {A : Type 0} → A × A → Type 0
AreSame p = p.0 ≡ p.1

-- of two lists that are the same as far as both go, one goes on with more
more-from_pairs : {A : Type 0} (xs ys : List A) → AllByRecursion AreSame (zip xs ys)
    → GoesOn xs ys ⊎ GoesOn ys xs
more-from_pairs [] ys h = inl (ys, refl)
more-from_pairs (x ∷ xs) [] h = inr (x ∷ xs, refl)
more-from_pairs (x ∷ xs) (y ∷ ys) h =
    elim (more-from_pairs xs ys h.1) [
      | inl g ↦ inl (more-cons x y xs ys h.0 g)
      | inr g ↦ inr (more-cons y x ys xs (sym h.0) g)
    ]

-- a list and one that goes on with more are the same as far as both go
pairs-of_more : {A : Type 0} (xs rest : List A) → AllByRecursion AreSame (zip xs (xs ++ rest))
pairs-of_more [] rest = tt
pairs-of_more (x ∷ xs) rest = (refl, pairs-of_more xs rest)

-- the other way round
pairs-before_more : {A : Type 0} (xs rest : List A) → AllByRecursion AreSame (zip (xs ++ rest) xs)
pairs-before_more [] [] = tt
pairs-before_more [] (y ∷ rest) = tt
pairs-before_more (x ∷ xs) rest = (refl, pairs-before_more xs rest)

-- where two lists are the same as far as both go, one is a beginning of the other, newest first
pub beginnings-from_pairs : {A : Type 0} (xs ys : List A) → All AreSame (zip xs ys)
    → IsBeginning (reverse xs) (reverse ys) ⊎ IsBeginning (reverse ys) (reverse xs)
beginnings-from_pairs xs ys h =
    elim (more-from_pairs xs ys (recursion_from_All AreSame (zip xs ys) h)) [
      | inl g ↦ inl (beginning-from_more xs ys g)
      | inr g ↦ inr (beginning-from_more ys xs g)
    ]

-- and back
pub pairs-from_beginnings : {A : Type 0} (xs ys : List A)
    → IsBeginning (reverse xs) (reverse ys) ⊎ IsBeginning (reverse ys) (reverse xs) → All AreSame (zip xs ys)
pairs-from_beginnings {A} xs ys (inl b) =
    let g = more-from_beginning xs ys b in
    subst (λ (l : List A). All AreSame (zip xs l)) g.1
    (All-from_recursion AreSame (zip xs (xs ++ g.0)) (pairs-of_more xs g.0))
pairs-from_beginnings {A} xs ys (inr b) =
    let g = more-from_beginning ys xs b in
    subst (λ (l : List A). All AreSame (zip l ys)) g.1
    (All-from_recursion AreSame (zip (ys ++ g.0) ys) (pairs-before_more ys g.0))
