-- Who never took a block, by how many stand with it.
use Rattle.ids.specs.declared.limits.TheConstants.{BELOW_HORIZON}
use Rattle.std.specs.Prelude.{slice_index_or}
use Rattle.std.proofs.Common.{ℕ, ◌+◌, ◌<◌, ◌≤◌, ◌≡◌, ◌==◌, Bool, cond, List, [], ◌∷◌, ◌++◌, map, filter}
use Rattle.std.proofs.Common.{length, take, length-append, sym, ap, subst, ◌∙◌, refl, arith, inl, inr, eq-eqb}
use Rattle.std.proofs.lemmas.Bool.{ne_eqb, le-leb}
use Rattle.std.proofs.lemmas.List.{length-map, take_more, take_all}
use Rattle.std.proofs.lemmas.List.Elements.{filter-append}
use Rattle.definitions.specs.Branches.{Branch, just1, just3}
use Rattle.definitions.specs.Chronicles.{Admitted, Chronicle, taken_blocks, stored_block, stored_blocks, standing_blocks}
use Rattle.definitions.specs.Chronicles.{window, horizon, executed}
use Rattle.definitions.specs.Lists.{Among}
use Rattle.definitions.specs.Trees.{Stored, is_in_reach, standing, blocks}
use Rattle.definitions.proofs.Branches.{just1-extends, just3-below, length-extends}
use Rattle.definitions.proofs.Chronicles.{decided-cases, executed-decided}
use Rattle.definitions.proofs.Horizons.{horizon-low}
use Rattle.definitions.proofs.Lists.{Among-mapped, Among-kept}

-- a block that it took, and that is in reach
abbrev IsInSight : Chronicle → Type 0
IsInSight c = (a : Admitted) × Among a (taken_blocks c) × (horizon c ≤ length a.branch)

-- some block is in reach of who took any
in-sight : (c : Chronicle) (a : Admitted) (more : List Admitted) → taken_blocks c ≡ a ∷ more → IsInSight c
in-sight c a more e = elim (decided-cases c (executed c) (executed-decided c)) [
  | inl g ↦ (
      let h = horizon-low c in let z = ap (λ (b : Branch). length b) g in
      (a, subst (λ (xs : List Admitted). Among a xs) (sym e) (inl refl), omega (arith, h, z)))
  | inr d ↦ (
      let h = horizon-low c in
      let z = ap (λ (b : Branch). length b) d.2 in
      let k = length-extends d.0.branch (just1 d.0.branch) (just1-extends d.0.branch) in
      let m = length-extends (just1 d.0.branch) (just3 d.0.branch) (just3-below d.0.branch) in
      (d.0, d.1, omega (arith, h, z, k, m)))
]

some-there : {A : Type 0} (xs : List A) (x : A) → Among x xs → 0 < length xs
some-there [] x m = absurd m
some-there (y ∷ xs) x m = omega arith

-- so it stands there
stands : (c : Chronicle) → IsInSight c → 0 < length (standing_blocks c)
unfolding standing_blocks stored_blocks
stands c s =
    some-there (standing (horizon c) (map stored_block (taken_blocks c))) (stored_block s.0)
    (Among-kept (λ x. is_in_reach (horizon c) x.branch) (map stored_block (taken_blocks c)) (stored_block s.0)
    (Among-mapped stored_block (taken_blocks c) s.0 s.1)
    (let l = s.2 in le-leb (horizon c) (length s.0.branch + BELOW_HORIZON) (omega (arith, l))))

counted : (xs : List Stored) → length (blocks xs) ≡ length xs + 1
counted xs =
    length-append (map (λ s. s.branch) xs) ([] ∷ []) ∙ ap (λ (n : ℕ). n + 1) (length-map xs (λ s. s.branch))

none-stands : (c : Chronicle) → taken_blocks c ≡ [] → standing_blocks c ≡ []
unfolding standing_blocks stored_blocks
none-stands c e = ap (λ (xs : List Admitted). standing (horizon c) (map stored_block xs)) e

-- who never took a block has one, genesis
pub newcomer-is : (c : Chronicle) → (length (window c) == 1) ≡ (length (taken_blocks c) == 0)
unfolding window
newcomer-is c = by (taken_blocks c) refl
  where
    all : length (blocks (standing_blocks c)) ≡ length (standing_blocks c) + 1
    all = counted (standing_blocks c)

    by : (xs : List Admitted) → taken_blocks c ≡ xs
        → (length (blocks (standing_blocks c)) == 1) ≡ (length (taken_blocks c) == 0)
    by [] e =
        let z = ap (λ (ys : List Stored). length ys) (none-stands c e) in
        let k = ap (λ (ys : List Admitted). length ys) e in
        eq-eqb (length (blocks (standing_blocks c))) 1 (omega (arith, all, z))
        ∙ sym (eq-eqb (length (taken_blocks c)) 0 k)
    by (a ∷ more) e =
        let l = stands c (in-sight c a more e) in
        let k = ap (λ (ys : List Admitted). length ys) e in
        ne_eqb (length (blocks (standing_blocks c))) 1 (λ h. let no : ⊥ = omega (arith, all, l, h) in no)
        ∙ sym (ne_eqb (length (taken_blocks c)) 0 (λ h. let no : ⊥ = omega (arith, k, h) in no))

-- ---- those of a row that pass

pub passing-more : (p : ℕ → Bool) (rs : List ℕ) (i d r : ℕ) (t : Bool) (found : List ℕ) → i < length rs
    → r ≡ slice_index_or rs i d → p r ≡ t → found ≡ filter p (take i rs)
    → found ++ cond t (r ∷ []) [] ≡ filter p (take (i + 1) rs)
passing-more p rs i d r t found l at is h =
    ap (λ (ys : List ℕ). ys ++ cond t (r ∷ []) []) h
    ∙ (ap (λ (b : Bool). filter p (take i rs) ++ cond b (r ∷ []) []) (sym is)
    ∙ (sym (filter-append p (take i rs) (r ∷ []))
    ∙ ap (λ (ys : List ℕ). filter p ys) (sym (take_more rs i d l ∙ ap (λ (x : ℕ). take i rs ++ x ∷ []) (sym at)))))

pub passing-all : (p : ℕ → Bool) (rs : List ℕ) (i : ℕ) (found : List ℕ) → length rs ≤ i
    → found ≡ filter p (take i rs) → found ≡ filter p rs
passing-all p rs i found l h = h ∙ ap (λ (ys : List ℕ). filter p ys) (take_all i rs l)
