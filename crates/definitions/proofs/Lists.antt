use Rattle.std.proofs.Common.{ℕ, suc, ◌≡◌, ◌≤◌, ◌⊎◌, Bool, true, false, List, [], ◌∷◌, ◌++◌, length, cond}
use Rattle.std.proofs.Common.{refl, sym, ap, subst, ◌∙◌, arith, inl, inr, find, Some, None, true≢false, map}
use Rattle.std.proofs.Common.{filter, reverse, zero, take, ltb, append_assoc}
use Rattle.std.proofs.lemmas.Bool.{cond_both, ltb-true, ltb-false, cond-true, cond-false, lt-ltb, le-ltb}
use Rattle.std.proofs.lemmas.Bool.{and_parts, or_cases, or_left, or_right}
use Rattle.std.specs.List.{list_all, list_any, AllByRecursion}
use lib.Dec.{ltb}
use Rattle.definitions.specs.Lists.{beginning, IsBeginning, Among, greatest}
use mathlib.Core.List.{reverse_aux}

none_some : {A : Type 0} {x : A} → None ≡ Some x → ⊥
none_some e = cc

pub beginning-begins : {A : Type 0} (k : ℕ) (xs : List A) → IsBeginning (beginning k xs) xs
unfolding beginning
beginning-begins k [] = ([], refl)
beginning-begins {A} k (x ∷ older) =
    cond_both (ltb (length older) k) (x ∷ older) (beginning k older)
    (λ (b : List A). IsBeginning b (x ∷ older))
    (λ e. ([], refl))
    (λ e. let h = beginning-begins k older in (x ∷ h.0, ap (λ (l : List A). x ∷ l) h.1))

pub Among-after : {A : Type 0} (x : A) (xs ys : List A) → Among x ys → Among x (xs ++ ys)
Among-after x [] ys h = h
Among-after x (y ∷ xs) ys h = inr (Among-after x xs ys h)

pub Among-before : {A : Type 0} (x : A) (xs ys : List A) → Among x xs → Among x (xs ++ ys)
Among-before x [] ys h = elim h [ ]
Among-before x (y ∷ xs) ys (inl e) = inl e
Among-before x (y ∷ xs) ys (inr h) = inr (Among-before x xs ys h)

pub length-beginning : {A : Type 0} (k : ℕ) (xs : List A) → k ≤ length xs → length (beginning k xs) ≡ k
unfolding beginning
length-beginning k [] h = omega arith
length-beginning {A} k (x ∷ older) h =
    cond_both (ltb (length older) k) (x ∷ older) (beginning k older) (λ (b : List A). length b ≡ k)
    (λ e. omega (arith, ltb-true (length older) k e))
    (λ e. length-beginning k older (ltb-false (length older) k e))

-- what find gives passes, and stands there; where it gives none, none passes
find_some_step : {A : Type 0} (p : A → Bool) (x : A) (xs : List A) (y : A)
    → (find p xs ≡ Some y → Among y xs × (p y ≡ true)) → (b : Bool) → p x ≡ b
    → cond b (Some x) (find p xs) ≡ Some y → Among y (x ∷ xs) × (p y ≡ true)
find_some_step {A} p x xs y rest true h e =
    let i : x ≡ y = cc in (inl (sym i), subst (λ (z : A). p z ≡ true) i h)
find_some_step p x xs y rest false h e = let r = rest e in (inr r.0, r.1)

pub find_some : {A : Type 0} (p : A → Bool) (xs : List A) (y : A) → find p xs ≡ Some y
    → Among y xs × (p y ≡ true)
find_some p [] y e = absurd (none_some e)
find_some {A} p (x ∷ xs) y e = find_some_step p x xs y (find_some p xs y) (p x) refl e

find_none_step : {A : Type 0} (p : A → Bool) (x : A) (xs : List A) (y : A)
    → (find p xs ≡ None → Among y xs → p y ≡ true → ⊥) → (b : Bool) → p x ≡ b
    → cond b (Some x) (find p xs) ≡ None → Among y (x ∷ xs) → p y ≡ true → ⊥
find_none_step p x xs y rest true h e m t = none_some (sym e)
find_none_step p x xs y rest false h e (inl i) t = true≢false (sym t ∙ (ap p i ∙ h))
find_none_step p x xs y rest false h e (inr m) t = rest e m t

pub find_none : {A : Type 0} (p : A → Bool) (xs : List A) (y : A) → find p xs ≡ None → Among y xs
    → p y ≡ true → ⊥
find_none p [] y e m t = m
find_none {A} p (x ∷ xs) y e m t = find_none_step p x xs y (find_none p xs y) (p x) refl e m t

pub Among-either : {A : Type 0} (x : A) (xs ys : List A) → Among x (xs ++ ys) → Among x xs ⊎ Among x ys
Among-either x [] ys m = inr m
Among-either x (y ∷ xs) ys (inl e) = inl (inl e)
Among-either x (y ∷ xs) ys (inr m) = elim (Among-either x xs ys m) [ inl k ↦ inl (inr k) | inr k ↦ inr k ]

pub Among-map : {A B : Type 0} (f : A → B) (xs : List A) (y : B) → Among y (map f xs)
    → (x : A) × Among x xs × (y ≡ f x)
Among-map f [] y m = absurd m
Among-map f (x ∷ xs) y (inl e) = (x, inl refl, e)
Among-map f (x ∷ xs) y (inr m) = let r = Among-map f xs y m in (r.0, inr r.1, r.2)

pub beginning-whole : {A : Type 0} (xs : List A) → beginning (length xs) xs ≡ xs
unfolding beginning
beginning-whole [] = refl
beginning-whole (x ∷ xs) = cond-true _ _ _ (lt-ltb (length xs) (suc (length xs)) (omega arith))

pub length-added : {A : Type 0} (added xs : List A) → length xs ≤ length (added ++ xs)
length-added [] xs = omega arith
length-added (x ∷ added) xs = let h = length-added added xs in omega (arith, h)

pub beginning-append : {A : Type 0} (added xs : List A) → beginning (length xs) (added ++ xs) ≡ xs
unfolding beginning
beginning-append [] xs = beginning-whole xs
beginning-append (x ∷ added) xs =
    cond-false _ _ _ (le-ltb (length (added ++ xs)) (length xs) (length-added added xs))
    ∙ beginning-append added xs

pub IsBeginning-beginning : {A : Type 0} (older newer : List A) → IsBeginning older newer
    → beginning (length older) newer ≡ older
IsBeginning-beginning {A} older newer h =
    ap (λ (l : List A). beginning (length older) l) (sym h.1) ∙ beginning-append h.0 older

pub Among-mapped : {A B : Type 0} (f : A → B) (xs : List A) (x : A) → Among x xs → Among (f x) (map f xs)
Among-mapped f [] x m = absurd m
Among-mapped f (y ∷ xs) x (inl e) = inl (ap f e)
Among-mapped f (y ∷ xs) x (inr m) = inr (Among-mapped f xs x m)

Among-kept-step : {A : Type 0} (y : A) (ys : List A) (x : A) (t : Bool) → Among x ys
    → Among x (cond t (y ∷ ys) ys)
Among-kept-step y ys x true m = inr m
Among-kept-step y ys x false m = m

pub Among-kept : {A : Type 0} (p : A → Bool) (xs : List A) (x : A) → Among x xs → p x ≡ true
    → Among x (filter p xs)
Among-kept p [] x m h = absurd m
Among-kept {A} p (y ∷ xs) x (inl e) h =
    subst (λ (l : List A). Among x l) (sym (cond-true _ _ _ (sym (ap p e) ∙ h))) (inl e)
Among-kept p (y ∷ xs) x (inr m) h = Among-kept-step y (filter p xs) x (p y) (Among-kept p xs x m h)

Among-filter-step : {A : Type 0} (p : A → Bool) (y : A) (ys : List A) (x : A)
    → (Among x (filter p ys) → Among x ys × (p x ≡ true)) → (t : Bool) → p y ≡ t
    → Among x (cond t (y ∷ filter p ys) (filter p ys)) → Among x (y ∷ ys) × (p x ≡ true)
Among-filter-step p y ys x rest true e (inl i) = (inl i, ap p i ∙ e)
Among-filter-step p y ys x rest true e (inr m) = let r = rest m in (inr r.0, r.1)
Among-filter-step p y ys x rest false e m = let r = rest m in (inr r.0, r.1)

-- what was kept stood there, and passes
pub Among-filter : {A : Type 0} (p : A → Bool) (xs : List A) (x : A) → Among x (filter p xs)
    → Among x xs × (p x ≡ true)
Among-filter p [] x m = absurd m
Among-filter p (y ∷ ys) x m = Among-filter-step p y ys x (Among-filter p ys x) (p y) refl m

filter-fewer-step : (t u : Bool) → (t ≡ true → u ≡ true) → {A : Type 0} (x : A) (xs ys : List A)
    → length xs ≤ length ys → length (cond t (x ∷ xs) xs) ≤ length (cond u (x ∷ ys) ys)
filter-fewer-step true true f x xs ys l = omega (arith, l)
filter-fewer-step true false f x xs ys l = absurd (true≢false (sym (f refl)))
filter-fewer-step false true f x xs ys l = omega (arith, l)
filter-fewer-step false false f x xs ys l = l

-- a harder test keeps no more
pub filter-fewer : {A : Type 0} (p q : A → Bool) → ((x : A) → p x ≡ true → q x ≡ true) → (xs : List A)
    → length (filter p xs) ≤ length (filter q xs)
filter-fewer p q f [] = omega arith
filter-fewer p q f (x ∷ xs) =
    filter-fewer-step (p x) (q x) (f x) x (filter p xs) (filter q xs) (filter-fewer p q f xs)

pub all-passes : {A : Type 0} (p : A → Bool) (xs : List A) (x : A) → list_all p xs ≡ true → Among x xs
    → p x ≡ true
all-passes p [] x h m = absurd m
all-passes p (y ∷ xs) x h (inl e) = ap p e ∙ (and_parts _ _ h).0
all-passes p (y ∷ xs) x h (inr m) = all-passes p xs x (and_parts _ _ h).1 m

-- what holds of each element
pub AllByRecursion-from : (P : ℕ → Type 0) (xs : List ℕ) → ((x : ℕ) → Among x xs → P x) → AllByRecursion P xs
AllByRecursion-from P [] h = tt
AllByRecursion-from P (x ∷ xs) h = (h x (inl refl), AllByRecursion-from P xs (λ y m. h y (inr m)))

pub Among-reverse_aux : {A : Type 0} (xs acc : List A) (x : A) → Among x (reverse_aux xs acc)
    → Among x xs ⊎ Among x acc
Among-reverse_aux [] acc x m = inr m
Among-reverse_aux (y ∷ xs) acc x m =
    elim (Among-reverse_aux xs (y ∷ acc) x m)
    [ inl k ↦ inl (inr k) | inr k ↦ (elim k [ inl e ↦ inl (inl e) | inr n ↦ inr n ]) ]

pub Among-reverse : {A : Type 0} (xs : List A) (x : A) → Among x (reverse xs) → Among x xs
Among-reverse xs x m = elim (Among-reverse_aux xs [] x m) [ inl k ↦ k | inr n ↦ absurd n ]

-- a vote is no higher than the greatest height
pub greatest-above : (xs : List ℕ) (x : ℕ) → Among x xs → x ≤ greatest xs
unfolding greatest
greatest-above [] x m = absurd m
greatest-above (y ∷ ys) x (inl e) = omega (arith, e)
greatest-above (y ∷ ys) x (inr m) = let h = greatest-above ys x m in omega (arith, h)

pub Among-take : {A : Type 0} (n : ℕ) (xs : List A) (x : A) → Among x (take n xs) → Among x xs
Among-take zero [] x m = m
Among-take zero (y ∷ xs) x m = absurd m
Among-take (suc n) [] x m = m
Among-take (suc n) (y ∷ xs) x (inl e) = inl e
Among-take (suc n) (y ∷ xs) x (inr m) = inr (Among-take n xs x m)

pub IsBeginning-trans : {A : Type 0} (a b c : List A) → IsBeginning a b → IsBeginning b c → IsBeginning a c
IsBeginning-trans {A} a b c h k =
    (k.0 ++ h.0, append_assoc k.0 h.0 a ∙ (ap (λ (l : List A). k.0 ++ l) h.1 ∙ k.1))

-- what passes somewhere passes at an element
pub any-found : {A : Type 0} (p : A → Bool) (xs : List A) → list_any p xs ≡ true
    → (x : A) × Among x xs × (p x ≡ true)
any-found p [] h = absurd (true≢false (sym h))
any-found p (x ∷ xs) h =
    elim (or_cases (p x) (list_any p xs) h) [
      | inl e ↦ (x, inl refl, e)
      | inr t ↦ let r = any-found p xs t in (r.0, inr r.1, r.2)
    ]

-- where an element passes, some does
pub any-from : {A : Type 0} (p : A → Bool) (xs : List A) (x : A) → Among x xs → p x ≡ true
    → list_any p xs ≡ true
any-from p [] x m h = absurd m
any-from p (y ∷ xs) x (inl e) h = or_left (p y) (list_any p xs) (sym (ap p e) ∙ h)
any-from p (y ∷ xs) x (inr m) h = or_right (p y) (list_any p xs) (any-from p xs x m h)
