-- Frames in order of height.
use Rattle.std.proofs.Common.{ℕ, zero, suc, ◌≡◌, ◌≤◌, ◌<◌, Bool, true, false, cond, List, [], ◌∷◌, ◌++◌, length, refl, ap, arith}
use Rattle.std.proofs.Common.{filter, get_or, leb, ltb}
use Rattle.std.specs.List.{AllByRecursion as Each}
use Rattle.std.proofs.lemmas.Bool.{leb-true, ltb-true}
use Rattle.frame_record.specs.declared.recorded.Recorded.{Recorded}
use Rattle.frame_record.specs.Costs.{cost, fitting}
use Rattle.frame_record.specs.Recording.{AreInOrder, above, inserted, up_to}

-- each height is at most those behind it
abbrev pub Rising : List Recorded → Type 0
Rising [] = Unit
Rising (r ∷ rs) = Each (λ x. r.height ≤ x.height) rs × Rising rs

each-at : (P : Recorded → Type 0) (rs : List Recorded) → ((k : ℕ) (d : Recorded) → k < length rs → P (get_or rs k d))
    → Each P rs
each-at P [] f = tt
each-at P (r ∷ rs) f = (f 0 r (omega arith), each-at P rs (λ k d l. f (suc k) d (omega (arith, l))))

at-each : (P : Recorded → Type 0) (rs : List Recorded) → Each P rs → (k : ℕ) (d : Recorded) → k < length rs
    → P (get_or rs k d)
at-each P [] e k d l = absurd (omega (arith, l))
at-each P (r ∷ rs) e zero d l = e.0
at-each P (r ∷ rs) e (suc k) d l = at-each P rs e.1 k d (omega (arith, l))

pub rising-from : (rs : List Recorded) → AreInOrder rs → Rising rs
rising-from [] h = tt
rising-from (r ∷ rs) h = (
  each-at (λ x. r.height ≤ x.height) rs (λ k d l. h 0 (suc k) d (omega arith) (omega (arith, l))),
  rising-from rs (λ i j d l m. h (suc i) (suc j) d (omega (arith, l)) (omega (arith, m))),
)

pub rising-to : (rs : List Recorded) → Rising rs → AreInOrder rs
rising-to [] h i j d l m = absurd (omega (arith, m))
rising-to (r ∷ rs) h zero zero d l m = omega arith
rising-to (r ∷ rs) h zero (suc j) d l m = at-each (λ x. r.height ≤ x.height) rs h.0 j d (omega (arith, m))
rising-to (r ∷ rs) h (suc i) zero d l m = absurd (omega (arith, l))
rising-to (r ∷ rs) h (suc i) (suc j) d l m = rising-to rs h.1 i j d (omega (arith, l)) (omega (arith, m))

-- ---- what is true of each

pub each-imp : (P Q : Recorded → Type 0) → ((x : Recorded) → P x → Q x) → (rs : List Recorded) → Each P rs → Each Q rs
each-imp P Q f [] e = tt
each-imp P Q f (r ∷ rs) e = (f r e.0, each-imp P Q f rs e.1)

pub each-append : (P : Recorded → Type 0) (xs ys : List Recorded) → Each P xs → Each P ys → Each P (xs ++ ys)
each-append P [] ys e g = g
each-append P (x ∷ xs) ys e g = (e.0, each-append P xs ys e.1 g)

pub each-front : (P : Recorded → Type 0) (xs ys : List Recorded) → Each P (xs ++ ys) → Each P xs
each-front P [] ys e = tt
each-front P (x ∷ xs) ys e = (e.0, each-front P xs ys e.1)

pub each-back : (P : Recorded → Type 0) (xs ys : List Recorded) → Each P (xs ++ ys) → Each P ys
each-back P [] ys e = e
each-back P (x ∷ xs) ys e = each-back P xs ys e.1

each-cond : (P : Recorded → Type 0) (b : Bool) (x : Recorded) (xs : List Recorded) → (b ≡ true → P x) → Each P xs
    → Each P (cond b (x ∷ xs) xs)
each-cond P true x xs f e = (f refl, e)
each-cond P false x xs f e = e

pub each-passes : (P : Recorded → Type 0) (p : Recorded → Bool) → ((x : Recorded) → p x ≡ true → P x) → (rs : List Recorded)
    → Each P (filter p rs)
each-passes P p f [] = tt
each-passes P p f (r ∷ rs) = each-cond P (p r) r (filter p rs) (f r) (each-passes P p f rs)

pub each-filter : (P : Recorded → Type 0) (p : Recorded → Bool) (rs : List Recorded) → Each P rs → Each P (filter p rs)
each-filter P p [] e = tt
each-filter P p (r ∷ rs) e = each-cond P (p r) r (filter p rs) (λ _. e.0) (each-filter P p rs e.1)

-- all pass, or none does
pub filter-whole : (p : Recorded → Bool) (rs : List Recorded) → Each (λ x. p x ≡ true) rs → filter p rs ≡ rs
filter-whole p [] e = refl
filter-whole p (r ∷ rs) e = let here = e.0 in rw here (ap (λ l. r ∷ l) (filter-whole p rs e.1))

pub filter-none : (p : Recorded → Bool) (rs : List Recorded) → Each (λ x. p x ≡ false) rs → filter p rs ≡ []
filter-none p [] e = refl
filter-none p (r ∷ rs) e = let here = e.0 in rw here (filter-none p rs e.1)

-- ---- one more in order

-- what is before one is no higher, and what is behind is in order
pub rising-below : (xs : List Recorded) (x : Recorded) (ys : List Recorded) → Rising (xs ++ x ∷ ys)
    → Each (λ y. y.height ≤ x.height) xs
rising-below [] x ys h = tt
rising-below (y ∷ xs) x ys h =
    ((each-back (λ z. y.height ≤ z.height) xs (x ∷ ys) h.0).0, rising-below xs x ys h.1)

pub rising-back : (xs ys : List Recorded) → Rising (xs ++ ys) → Rising ys
rising-back [] ys h = h
rising-back (x ∷ xs) ys h = rising-back xs ys h.1

rising-cond : (b : Bool) (x : Recorded) (xs : List Recorded) → Each (λ y. x.height ≤ y.height) xs → Rising xs
    → Rising (cond b (x ∷ xs) xs)
rising-cond true x xs e h = (e, h)
rising-cond false x xs e h = h

rising-filter : (p : Recorded → Bool) (rs : List Recorded) → Rising rs → Rising (filter p rs)
rising-filter p [] h = tt
rising-filter p (r ∷ rs) h =
    rising-cond (p r) r (filter p rs) (each-filter (λ y. r.height ≤ y.height) p rs h.0) (rising-filter p rs h.1)

rising-append : (h : ℕ) (xs ys : List Recorded) → Rising xs → Each (λ x. x.height ≤ h) xs → Rising ys
    → Each (λ y. h ≤ y.height) ys → Rising (xs ++ ys)
rising-append h [] ys a b c d = c
rising-append h (x ∷ xs) ys a b c d = (
  each-append (λ y. x.height ≤ y.height) xs ys a.0
      (each-imp (λ y. h ≤ y.height) (λ y. x.height ≤ y.height) (λ y l. omega (arith, l, b.0)) ys d),
  rising-append h xs ys a.1 b.1 c d,
)

pub rising-inserted : (r : Recorded) (rs : List Recorded) → Rising rs → Rising (inserted r rs)
rising-inserted r rs h =
    let high : Each (λ y. r.height ≤ y.height) (above r.height rs) =
    each-passes (λ y. r.height ≤ y.height) (λ x. ltb r.height x.height)
    (λ x e. omega (arith, ltb-true r.height x.height e)) rs in
    let low : Each (λ y. y.height ≤ r.height) (up_to r.height rs) =
    each-passes (λ y. y.height ≤ r.height) (λ x. leb x.height r.height) (λ x e. leb-true x.height r.height e) rs in
    rising-append r.height (up_to r.height rs) (r ∷ above r.height rs)
    (rising-filter (λ x. leb x.height r.height) rs h) low
    (high, rising-filter (λ x. ltb r.height x.height) rs h) (omega arith, high)

rising-fits : (b : Bool) (xs ys : List Recorded) → Rising xs → Rising ys → Rising (cond b xs ys)
rising-fits true xs ys h g = h
rising-fits false xs ys h g = g

pub rising-fitting : (most : ℕ) (rs : List Recorded) → Rising rs → Rising (fitting most rs)
rising-fitting most [] h = tt
rising-fitting most (r ∷ rs) h =
    rising-fits (leb (cost (r ∷ rs)) most) (r ∷ rs) (fitting most rs) h (rising-fitting most rs h.1)

-- what is kept stays in order
pub order-kept : (most : ℕ) (r : Recorded) (rs : List Recorded) → AreInOrder rs
    → AreInOrder (fitting most (inserted r rs))
order-kept most r rs h =
    rising-to (fitting most (inserted r rs))
    (rising-fitting most (inserted r rs) (rising-inserted r rs (rising-from rs h)))
