-- The chronicles of the correct replicas, side by side: each lawful, all in one order.
use Rattle.definitions.proofs.Chronicles.{voted-tree, taken-tree}
use Rattle.std.proofs.Common.{ℕ, ◌≡◌, Bool, true, false, ◌∷◌, cond, refl, sym, ap, subst, ◌∙◌}
use Rattle.std.proofs.Common.{inl, inr, map, true≢false, ◌==◌}
use Rattle.std.specs.Bool.{⊤}
use Rattle.std.proofs.lemmas.Bool.{eqb-true, eq-eqb, cond_both, cond-true, cond-false, cases_Bool, ne_eqb}
use Rattle.definitions.proofs.Digests.{digest_of-one, all_known-below}
use Rattle.definitions.proofs.Branches.{just1-extends}
use Rattle.definitions.specs.Lists.{Among}
use Rattle.definitions.specs.Frames.{Core, genesis_core}
use Rattle.definitions.specs.Branches.{Branch, just1}
use Rattle.ids.specs.Sizes.{Sizes}
use Rattle.definitions.specs.Digests.{digest_of, core_of, AllKnown, NoCollision}
use Rattle.definitions.specs.Trees.{blocks}
use Rattle.definitions.specs.Chronicles.{Admitted, Step, Step.took_block, Step.noted, Chronicle, voted_blocks}
use Rattle.definitions.specs.Chronicles.{taken_blocks, tree, IsLawful, IsLawfulTake, IsSound, stored_blocks}
use Rattle.definitions.specs.Chronicles.{stored_block, HasTaken}
use Rattle.definitions.specs.Agreement.{Order, steps_of, IsBacked, IsOrderly}

abbrev pub put_row : ℕ → Chronicle → (ℕ → Chronicle) → ℕ → Chronicle
put_row p c row j = cond (j == p) c (row j)

pub put_row-both : (P : Chronicle → Type 0) (p : ℕ) (c : Chronicle) (row : ℕ → Chronicle) (j : ℕ)
    → (j ≡ p → P c) → P (row j) → P (put_row p c row j)
put_row-both P p c row j here there = cond_both (j == p) c (row j) P (λ e. here (eqb-true j p e)) (λ e. there)

-- ---- rows

pub record IsRow (Known : Core → Type 0) (sizes : Sizes) (is_member : ℕ → Bool) (row : ℕ → Chronicle) :
    Type 0 where
  pub sound : (p : ℕ) → is_member p ≡ true → IsSound sizes (row p)
  pub known : (p : ℕ) → is_member p ≡ true → (b : Branch) → Among b (tree (row p)) → AllKnown Known b
  pub orderly : IsOrderly (record { sizes = sizes; is_member = is_member; chronicle = row })

pub same-row : (Known : Core → Type 0) (sizes : Sizes) (is_member : ℕ → Bool) (row new : ℕ → Chronicle)
    → ((i : ℕ) → row i ≡ new i) → IsRow Known sizes is_member row → IsRow Known sizes is_member new
same-row Known sizes is_member row new e r = subst (IsRow Known sizes is_member) (λ k i. e i k) r

-- what has to be known of a step for the row to go on: where it takes a block, the core is known, each
-- counted vote of a member is for some block of the certificate's digest, and each member that sent the block
-- took one of its digest
pub record MayFollow (Known : Core → Type 0) (is_member : ℕ → Bool) (row : ℕ → Chronicle) (a : Admitted) :
    Type 0 where
  pub known : a.new ≡ true → Known (core_of a.branch)
  pub votes : (v : ℕ) → Among v a.counted → is_member v ≡ true
      → (x : Branch) × Among x (voted_blocks (row v)) × (digest_of x ≡ digest_of (just1 a.branch))
  pub sent : (v : ℕ) → Among v a.senders → is_member v ≡ true
      → (x : Branch) × HasTaken x (row v) × (digest_of x ≡ digest_of a.branch)

abbrev pub StepMayFollow : (Core → Type 0) → (ℕ → Bool) → (ℕ → Chronicle) → Step → Type 0
StepMayFollow Known is_member row (took_block a) = MayFollow Known is_member row a
StepMayFollow Known is_member row st = ⊤

-- a block put on a known one
pub taken-known : (Known : Core → Type 0) (need : Sizes) (a : Admitted) (c : Chronicle)
    → IsLawfulTake need a c → ((b : Branch) → Among b (tree c) → AllKnown Known b)
    → Known (core_of a.branch) → AllKnown Known a.branch
taken-known Known need a c l old k =
    let p = l.parent in
    subst (AllKnown Known) (sym p.2) (subst (λ (b : Branch). Known (core_of b)) p.2 k, old p.1 p.4)

pub step-known : (Known : Core → Type 0) (a : Admitted) (c : Chronicle) (t : Bool) → a.new ≡ t
    → (a.new ≡ true → AllKnown Known a.branch)
    → ((b : Branch) → Among b (blocks (map stored_block (taken_blocks c))) → AllKnown Known b) → (b : Branch)
    → Among b (blocks (map stored_block (cond t (a ∷ taken_blocks c) (taken_blocks c)))) → AllKnown Known b
step-known Known a c true e here old b (inl i) = subst (AllKnown Known) (sym i) (here e)
step-known Known a c true e here old b (inr m) = old b m
step-known Known a c false e here old b m = old b m

pub grows-known : (Known : Core → Type 0) (need : Sizes) (st : Step) (is_member : ℕ → Bool)
    (row : ℕ → Chronicle) (c : Chronicle) → IsLawful need (st ∷ c)
    → StepMayFollow Known is_member row st → ((b : Branch) → Among b (tree c) → AllKnown Known b)
    → (b : Branch) → Among b (tree (st ∷ c)) → AllKnown Known b
unfolding tree stored_blocks taken_blocks
grows-known Known need (took_block a) is_member row c l f old =
    step-known Known a c a.new refl (λ n. taken-known Known need a c (l.0.1 n) old (f.known n)) old
grows-known Known need (noted n) is_member row c l f old = old

module _ (Known : Core → Type 0) (apart : NoCollision Known) (genesis : Known genesis_core)
    (ground : genesis_core.height ≡ 0) where
  -- each vote counted in a member's name is an earlier vote of it, and each member that sent the block took it
  grows-backed : (sizes : Sizes) (is_member : ℕ → Bool) (row : ℕ → Chronicle)
      (r : IsRow Known sizes is_member row) (p : ℕ) → is_member p ≡ true → (st : Step)
      → IsSound sizes (st ∷ row p) → StepMayFollow Known is_member row st
      → IsBacked is_member st r.orderly.order
  grows-backed sizes is_member row r p m (took_block a) so f = λ n v mv.
      let kb : AllKnown Known a.branch =
      taken-known Known sizes a (row p) (so.lawful.0.1 n) (r.known p m) (f.known n) in
      let kj : AllKnown Known (just1 a.branch) =
      all_known-below Known a.branch (just1 a.branch) kb (just1-extends a.branch) in (
        λ k.
            let x = f.votes v k mv in
            let kx : AllKnown Known x.0 =
            r.known v mv x.0 (voted-tree sizes (row v) (r.sound v mv).lawful x.0 x.1) in
            let e : x.0 ≡ just1 a.branch =
            digest_of-one Known apart genesis ground x.0 (just1 a.branch) kx kj x.2 in
            subst (λ (c : Chronicle). Among (just1 a.branch) (voted_blocks c))
            (sym (r.orderly.whole v mv)) (subst (λ (y : Branch). Among y (voted_blocks (row v))) e x.1),
        λ k.
            let x = f.sent v k mv in
            let kx : AllKnown Known x.0 =
            r.known v mv x.0 (subst (λ (y : Branch). Among y (tree (row v))) x.1.2
            (taken-tree (row v) x.1.0 x.1.1)) in
            let e : x.0 ≡ a.branch = digest_of-one Known apart genesis ground x.0 a.branch kx kb x.2 in
            subst (HasTaken a.branch) (sym (r.orderly.whole v mv))
            (subst (λ (y : Branch). HasTaken y (row v)) e x.1),
      )
  grows-backed sizes is_member row r p m (noted n) so f = tt

  whole-step : (p : ℕ) (st : Step) (o : Order) (row : ℕ → Chronicle) (i : ℕ) → steps_of i o ≡ row i
      → steps_of p o ≡ row p → steps_of i ((p, st) ∷ o) ≡ put_row p (st ∷ row p) row i
  unfolding steps_of
  whole-step p st o row i e h =
      elim (cases_Bool (p == i)) [
        | inl t ↦
            (let k =
            eqb-true p i t in
            cond-true _ _ _ t
            ∙ (ap (λ (c : Chronicle). st ∷ c) (ap (λ (j : ℕ). steps_of j o) (sym k) ∙ h)
            ∙ sym (cond-true _ _ _ (eq-eqb i p (sym k)))))
        | inr n ↦
            (cond-false _ _ _ n
            ∙ (e ∙ sym (cond-false _ _ _ (ne_eqb i p (λ k. true≢false (sym (eq-eqb p i (sym k)) ∙ n))))))
      ]

  -- a step more of one member
  pub row-grows : (sizes : Sizes) (is_member : ℕ → Bool) (row : ℕ → Chronicle)
      → IsRow Known sizes is_member row → (p : ℕ) → is_member p ≡ true → (st : Step)
      → IsSound sizes (st ∷ row p) → StepMayFollow Known is_member row st
      → IsRow Known sizes is_member (put_row p (st ∷ row p) row)
  row-grows sizes is_member row r p m st so f = record {
    sound = λ i mi. put_row-both (IsSound sizes) p (st ∷ row p) row i (λ e. so) (r.sound i mi);
    known = λ i mi. put_row-both (λ (c : Chronicle). (b : Branch) → Among b (tree c) → AllKnown Known b) p
        (st ∷ row p) row i (λ e. grows-known Known sizes st is_member row (row p) so.lawful f (r.known p m))
        (r.known i mi);
    orderly = record {
      order = (p, st) ∷ r.orderly.order;
      whole = λ i mi. whole-step p st r.orderly.order row i (r.orderly.whole i mi) (r.orderly.whole p m);
      ordered = (grows-backed sizes is_member row r p m st so f, r.orderly.ordered);
    };
  }
