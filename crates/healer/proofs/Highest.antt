-- The highest of what replicas have, one after the other.
use Rattle.std.specs.Prelude.{slice_index_or, max}
use Rattle.std.proofs.Common.{ℕ, ◌+◌, ◌<◌, ◌≤◌, ◌≡◌, List, [], ◌∷◌, ◌++◌, length, take, sym, ap, ◌∙◌, arith}
use Rattle.std.proofs.lemmas.List.{take_more, take_all}

module _ (has : ℕ → ℕ) (highest : List ℕ → ℕ) (none : highest [] ≡ 0)
    (first : (r : ℕ) (rs : List ℕ) → highest (r ∷ rs) ≡ max (has r) (highest rs)) where
  more : (rs : List ℕ) (r : ℕ) → highest (rs ++ r ∷ []) ≡ max (highest rs) (has r)
  more [] r = let e = first r [] in let z = none in omega (arith, e, z)
  more (x ∷ rs) r =
      let e = first x (rs ++ r ∷ []) in
      let m = more rs r in
      let b = first x rs in
      omega (arith, e, m, b)

  pub highest-next : (rs : List ℕ) (i d r high one : ℕ) → i < length rs → r ≡ slice_index_or rs i d
      → high ≡ highest (take i rs) → one ≡ has r → max high one ≡ highest (take (i + 1) rs)
  highest-next rs i d r high one l at h o =
      let m = more (take i rs) r in
      let e : highest (take (i + 1) rs) ≡ highest (take i rs ++ r ∷ []) =
      ap highest (take_more rs i d l ∙ ap (λ (x : ℕ). take i rs ++ x ∷ []) (sym at)) in
      omega (arith, m, e, h, o)

  pub highest-all : (rs : List ℕ) (i high : ℕ) → length rs ≤ i → high ≡ highest (take i rs) → high ≡ highest rs
  highest-all rs i high l h = h ∙ ap highest (take_all i rs l)
