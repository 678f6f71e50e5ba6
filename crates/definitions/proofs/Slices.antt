-- Parts of parts, by their places.
use Rattle.std.proofs.Common.{◌≡◌, ℕ, ◌+◌, ◌-◌, ◌≤◌, length, take, drop, sym, ap, subst, ◌∙◌, inl, inr}
use Rattle.std.proofs.Common.{arith, length-drop}
use Rattle.std.specs.Borrow.{Bor}
use Rattle.std.proofs.lemmas.Bool.{cases_lt}
use Rattle.std.proofs.lemmas.List.{drop-drop, drop-take, take-take, take_all, length-take, take_min}
use Rattle.definitions.specs.Bytes.{Bytes}
use Rattle.definitions.specs.Slices.{LiesAt, LentAt, LeftAt}

-- a part of a part lies that much further
pub LiesAt-within : (s m p : Bytes) (i j : ℕ) → LiesAt s i m → LiesAt m j p → LiesAt s (i + j) p
LiesAt-within s m p i j outer inner =
    let few : length p ≤ length m - j =
    omega (arith, ap length inner, length-take (length p) (drop j m), length-drop j m) in
    let far : drop j (drop i s) ≡ drop (i + j) s = drop-drop j i s in
    elim (cases_lt (length m) j) [
      | inl past ↦
          inner ∙ ap (λ (k : ℕ). take k (drop j m)) (let none : length p ≡ 0 = omega arith in none)
          ∙ ap (λ (k : ℕ). take k (drop (i + j) s)) (let none : 0 ≡ length p = omega arith in none)
      | inr there ↦
          let whole : j + (length m - j) ≡ length m = omega arith in
          let part : drop j m ≡ take (length m - j) (drop j (drop i s)) =
          ap (drop j) (outer ∙ ap (λ (k : ℕ). take k (drop i s)) (sym whole))
          ∙ drop-take j (length m - j) (drop i s) in
          inner ∙ ap (take (length p)) part ∙ take-take (length p) (length m - j) (drop j (drop i s)) few
          ∙ ap (take (length p)) far
    ]

-- the same of what is lent
pub LentAt-within : (s m p : Bor Bytes) (i j : ℕ) → LentAt s i m → LentAt m j p → LentAt s (i + j) p
LentAt-within s m p i j outer inner =
    (LiesAt-within s.now m.now p.now i j outer.0 inner.0, inner.1 ∙ outer.1, omega (arith, outer.2, inner.2))

-- a part of a text's front lies in the text
pub LiesAt-front : (s p : Bytes) (n i : ℕ) → LiesAt (take n s) i p → LiesAt s i p
LiesAt-front s p n i inner =
    let front : take n s ≡ take (length (take n s)) (drop 0 s) =
    sym (ap (λ (k : ℕ). take k s) (length-take n s) ∙ take_min n s) in
    subst (λ (k : ℕ). LiesAt s k p) (let none : 0 + i ≡ i = omega arith in none)
    (LiesAt-within s (take n s) p 0 i front inner)

-- what is left of a text lies there
pub LiesAt-back : (s : Bytes) (n : ℕ) → LiesAt s n (take (length s - n) (drop n s))
LiesAt-back s n = ap (λ (k : ℕ). take k (drop n s))
    (let size : length s - n ≡ length (take (length s - n) (drop n s)) =
    omega (arith, length-take (length s - n) (drop n s), length-drop n s) in size)

-- what is lent at a place is lent at an equal one
pub LentAt-same : (s p : Bor Bytes) (i j : ℕ) → i ≡ j → LentAt s i p → LentAt s j p
LentAt-same s p i j e h = subst (λ (k : ℕ). LentAt s k p) e h

-- what lies in a part lies in the source at the sum of their places
pub LiesAt-behind : (s m p : Bytes) (i j k : ℕ) → i + j ≡ k → LiesAt s i m → LiesAt m j p → LiesAt s k p
LiesAt-behind s m p i j k e outer inner =
    subst (λ (n : ℕ). LiesAt s n p) e (LiesAt-within s m p i j outer inner)

-- the same of what is lent
pub LentAt-behind : (s m p : Bor Bytes) (i j k : ℕ) → i + j ≡ k → LentAt s i m → LentAt m j p → LentAt s k p
LentAt-behind s m p i j k e outer inner = LentAt-same s p (i + j) k e (LentAt-within s m p i j outer inner)

-- the same of what is left
pub LeftAt-behind : (s m r : Bor Bytes) (i j k : ℕ) → i + j ≡ k → LeftAt s i m → LeftAt m j r → LeftAt s k r
LeftAt-behind s m r i j k e outer inner =
    (LentAt-behind s m r i j k e outer.0 inner.0, omega (arith, e, outer.1, inner.1))

-- so many bytes of a source lie where they stand, and all that stands from a place on
pub LiesAt-take : (s : Bytes) (n k : ℕ) → LiesAt s k (take n (drop k s))
LiesAt-take s n k = sym (ap (λ (m : ℕ). take m (drop k s)) (length-take n (drop k s)) ∙ take_min n (drop k s))

pub LiesAt-drop : (s : Bytes) (k : ℕ) → LiesAt s k (drop k s)
LiesAt-drop s k = sym (take_all (length (drop k s)) (drop k s) (omega arith))
