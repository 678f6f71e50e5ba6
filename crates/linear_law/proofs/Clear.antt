-- Each block at or below a certified one was clear for some member that took it.
use Rattle.definitions.proofs.Chronicles.{tree-taken, lawful-taken, taken-grows, tree-grows}
use Rattle.definitions.proofs.Branches.{extends-between, just1-below, length-extends, just1-extends}
use Rattle.std.proofs.Common.{ℕ, zero, suc, ◌≡◌, ◌<◌, ◌≤◌, Bool, true, false, [], ◌∷◌, length, cond}
use Rattle.std.proofs.Common.{refl, sym, ap, subst, arith, inl, inr}
use Rattle.std.proofs.lemmas.Bool.{cases_lt}
use Rattle.definitions.specs.Lists.{Among}
use Rattle.definitions.specs.Branches.{Branch, just1, Extends, IsBranch}
use Rattle.ids.specs.Sizes.{Sizes}
use Rattle.definitions.specs.Chronicles.{Admitted, Step, Step.took_block, Step.noted, Chronicle, voted_blocks}
use Rattle.definitions.specs.Chronicles.{taken_blocks, tree, IsLawful, IsLawfulVote}
use Rattle.definitions.specs.Agreement.{Family, MayBeCertified, Order, IsLawfulFamily}
use Rattle.agreement.proofs.Certified.{family_at, taken-certified, voted-both}
use Rattle.agreement.proofs.Agreement.{lawful-order}

-- the block was taken, and as a clear one
abbrev pub IsClearIn : Chronicle → Branch → Type 0
IsClearIn c x = (a : Admitted) × Among a (taken_blocks c) × (a.branch ≡ x) × (a.clear ≡ true)

-- what was voted for has clear blocks down to the one it justifies
record IsClearVote (b : Branch) (c : Chronicle) : Type 0 where
  clear : (x : Branch) → Extends b x → length (just1 b) < length x → IsClearIn c x
  taken : Among b (tree c)

clear-vote-grows : (st : Step) (b : Branch) (c : Chronicle) → IsClearVote b c → IsClearVote b (st ∷ c)
clear-vote-grows st b c h =
    record {
      clear = λ x e l. (let r = h.clear x e l in (r.0, taken-grows st c r.0 r.1, r.2, r.3));
      taken = tree-grows st c b h.taken;
    }

vote-step : (a : Admitted) (c : Chronicle) (x : Branch) (t : Bool) → a.voted ≡ t
    → (a.voted ≡ true → IsLawfulVote a.branch (took_block a ∷ c) c)
    → (Among x (voted_blocks c) → IsClearVote x c)
    → Among x (cond t (a.branch ∷ voted_blocks c) (voted_blocks c)) → IsClearVote x (took_block a ∷ c)
vote-step a c x true e law rest (inl i) =
    subst (λ (y : Branch). IsClearVote y (took_block a ∷ c)) (sym i)
    (let l = law e in record { clear = l.clear; taken = l.taken })
vote-step a c x true e law rest (inr m) = clear-vote-grows (took_block a) x c (rest m)
vote-step a c x false e law rest m = clear-vote-grows (took_block a) x c (rest m)

vote-clear : (s : Sizes) (c : Chronicle) → IsLawful s c → (b : Branch) → Among b (voted_blocks c)
    → IsClearVote b c
unfolding voted_blocks
vote-clear s [] l b m = absurd m
vote-clear s (took_block a ∷ c) l b m = vote-step a c b a.voted refl l.0.0 (vote-clear s c l.1 b) m
vote-clear s (noted n ∷ c) l b m = clear-vote-grows _ b c (vote-clear s c l.1 b m)

abbrev pub IsClearSomewhere : Family → Branch → Type 0
IsClearSomewhere fam y = (v : ℕ) × (fam.is_member v ≡ true) × IsClearIn (fam.chronicle v) y

-- a member voted for the block above genesis that a taken one justifies
justified-vote : (fam : Family) → IsLawfulFamily fam → (p : ℕ) (a : Admitted) → fam.is_member p ≡ true
    → Among a (taken_blocks (fam.chronicle p)) → 0 < length (just1 a.branch)
    → (v : ℕ) × (fam.is_member v ≡ true) × IsClearVote (just1 a.branch) (fam.chronicle v)
justified-vote fam l p a mp m h =
    let o : Order = l.orderly.order in
    let certified : MayBeCertified (family_at fam.sizes fam.is_member o) (just1 a.branch) =
    taken-certified fam.sizes fam.is_member l.enough o (lawful-order fam l) p mp a
    (subst (λ (c : Chronicle). Among a (taken_blocks c)) (sym (l.orderly.whole p mp)) m) h in
    let v = voted-both fam.sizes fam.is_member l.enough o o _ _ certified certified in (
      v.0,
      v.1,
      vote-clear fam.sizes (fam.chronicle v.0) (l.lawful v.0 v.1) (just1 a.branch)
          (subst (λ (c : Chronicle). Among (just1 a.branch) (voted_blocks c)) (l.orderly.whole v.0 v.1) v.2),
    )

pub clear-below : (fuel : ℕ) (fam : Family) → IsLawfulFamily fam → (p : ℕ) (a : Admitted) → fam.is_member p ≡ true
    → Among a (taken_blocks (fam.chronicle p)) → length (just1 a.branch) ≤ fuel → (y : Branch)
    → Extends (just1 a.branch) y → 0 < length y → IsClearSomewhere fam y
clear-below zero fam co p a mp m f y e l =
    absurd (let h = length-extends (just1 a.branch) y e in omega (arith, h, f, l))
clear-below (suc fuel) fam co p a mp m f y e l =
    let h = length-extends (just1 a.branch) y e in
    let v = justified-vote fam co p a mp m (omega (arith, h, l)) in
    elim (cases_lt (length (just1 (just1 a.branch))) (length y)) [
      | inl higher ↦ (v.0, v.1, v.2.clear y e higher)
      | inr lower ↦
          let r = tree-taken (fam.chronicle v.0) (just1 a.branch) v.2.taken (omega (arith, h, l)) in
          let t = lawful-taken fam.sizes (fam.chronicle v.0) (co.lawful v.0 v.1) r.0 r.1 in
          let same : just1 r.0.branch ≡ just1 (just1 a.branch) = ap just1 r.2 in
          let short = just1-below (just1 a.branch) (subst IsBranch r.2 t.0) (omega (arith, h, l)) in
          let long = ap (λ (x : Branch). length x) same in
          clear-below fuel fam co v.0 r.0 v.1 r.1 (omega (arith, short, long, f)) y
          (subst (λ (x : Branch). Extends x y) (sym same) (extends-between (just1 a.branch)
          (just1 (just1 a.branch)) y (just1-extends (just1 a.branch)) e lower)) l
    ]
