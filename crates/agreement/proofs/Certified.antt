-- Votes and certified blocks along one order of the members' steps.
use Rattle.std.proofs.Common.{ℕ, ◌≡◌, ◌<◌, ◌≤◌, ◌⊎◌, Bool, true, List, [], ◌∷◌, ◌++◌, length, refl, sym, ap}
use Rattle.std.proofs.Common.{subst, ◌∙◌, arith, inl, inr, ◌==◌}
use Rattle.std.specs.List.{list_any}
use Rattle.std.proofs.lemmas.Bool.{cond_both, cond-true, or_cases, or_left, or_right, true≢false}
use Rattle.definitions.specs.Lists.{Among, IsBeginning, count_below}
use Rattle.definitions.specs.Branches.{Branch, just1, branch_eq}
use Rattle.ids.specs.Sizes.{Sizes, replicas, quorum}
use Rattle.definitions.specs.Chronicles.{Admitted, Step, Chronicle, voted_blocks, taken_blocks, tree, lock}
use Rattle.definitions.specs.Chronicles.{Step.took_block, HasGrounds.by_genesis, HasGrounds.by_votes}
use Rattle.definitions.specs.Chronicles.{HasGrounds.by_take, HasGrounds.by_senders, IsLawfulTake}
use Rattle.definitions.specs.Chronicles.{IsLawfulStep, IsLawful}
use Rattle.definitions.specs.Agreement.{Family, supports, MayBeCertified, Order, steps_of, IsBacked}
use Rattle.definitions.specs.Agreement.{IsOrdered}
use Rattle.definitions.proofs.Branches.{branch_eq-decides, length-extends, just1-extends, just2-is}
use Rattle.definitions.proofs.Orders.{order-grows}
use Rattle.definitions.proofs.Chronicles.{taken-now, voted-cases, IsVote, vote-higher}
use Rattle.definitions.proofs.Chronicles.{same-vote, lock-cases, tree-taken, tree-just1, taken-tree}
use Rattle.definitions.proofs.Quorums.{shared, some-member}
use Rattle.definitions.proofs.Counts.{count-listed, count-mono}

-- the family whose members have made the steps of this order
abbrev pub family_at : Sizes → (ℕ → Bool) → Order → Family
family_at s is_member o = record { sizes = s; is_member = is_member; chronicle = λ i. steps_of i o }

-- each step of this order is lawful, and stands behind what it has of others
pub record IsLawfulOrder (s : Sizes) (is_member : ℕ → Bool) (o : Order) : Type 0 where
  pub ordered : IsOrdered is_member o
  pub lawful : (i : ℕ) → is_member i ≡ true → IsLawful s (steps_of i o)

-- ---- votes

-- the newest step of the order is i's vote for b, or the vote is an earlier one
pub order-cases : (s : Sizes) (p : ℕ × Step) (o : Order) (i : ℕ) (b : Branch)
    → IsLawful s (steps_of i (p ∷ o)) → Among b (voted_blocks (steps_of i (p ∷ o)))
    → IsVote b (steps_of i (p ∷ o)) (steps_of i o) ⊎ Among b (voted_blocks (steps_of i o))
unfolding steps_of
order-cases s p o i b =
    cond_both (p.0 == i) (p.1 ∷ steps_of i o) (steps_of i o)
    (λ (c : Chronicle). IsLawful s c → Among b (voted_blocks c)
    → IsVote b c (steps_of i o) ⊎ Among b (voted_blocks (steps_of i o)))
    (λ e l m. voted-cases s p.1 (steps_of i o) b l m) (λ e l m. inr m)

-- of two votes the lower one is not the newest
pub lower-earlier : (s : Sizes) (p : ℕ × Step) (o : Order) (i : ℕ) (a b : Branch)
    → IsLawful s (steps_of i (p ∷ o)) → Among a (voted_blocks (steps_of i (p ∷ o)))
    → Among b (voted_blocks (steps_of i (p ∷ o)))
    → length b < length a → Among b (voted_blocks (steps_of i o))
lower-earlier s p o i a b l m n h =
    elim (order-cases s p o i b l n) [
      | inr k ↦ k
      | inl w ↦ (elim (order-cases s p o i a l m) [
        | inl v ↦ absurd (omega (arith, ap (λ (z : Branch). length z) (same-vote a b _ _ v w)))
        | inr k ↦ absurd (omega (arith, vote-higher b a _ _ w k))
      ])
    ]

-- a lawful order is lawful without its newest step
pub lawful-older : (s : Sizes) (is_member : ℕ → Bool) (p : ℕ × Step) (o : Order)
    → IsLawfulOrder s is_member (p ∷ o) → IsLawfulOrder s is_member o
unfolding steps_of
lawful-older s is_member p o l = record {
  ordered = l.ordered.1;
  lawful = λ i mi. cond_both (p.0 == i) (p.1 ∷ steps_of i o) (steps_of i o)
      (λ (c : Chronicle). IsLawful s c → IsLawful s (steps_of i o)) (λ e k. k.1) (λ e k. k) (l.lawful i mi);
}

lawful-added : (s : Sizes) (is_member : ℕ → Bool) (added o : Order) → IsLawfulOrder s is_member (added ++ o)
    → IsLawfulOrder s is_member o
lawful-added s is_member [] o l = l
lawful-added s is_member (p ∷ added) o l =
    lawful-added s is_member added o (lawful-older s is_member p (added ++ o) l)

-- a beginning of a lawful order is lawful
pub lawful-beginning : (s : Sizes) (is_member : ℕ → Bool) (o whole : Order) → IsBeginning o whole
    → IsLawfulOrder s is_member whole → IsLawfulOrder s is_member o
lawful-beginning s is_member o whole g l =
    lawful-added s is_member g.0 o (subst (IsLawfulOrder s is_member) (sym g.1) l)

voted-added : (added o : Order) (i : ℕ) (b : Branch) → Among b (voted_blocks (steps_of i o))
    → Among b (voted_blocks (steps_of i (added ++ o)))
voted-added [] o i b m = m
voted-added (p ∷ added) o i b m = order-grows p.0 p.1 (added ++ o) i b (voted-added added o i b m)

-- its votes stay
pub voted-later : (o whole : Order) → IsBeginning o whole → (i : ℕ) (b : Branch)
    → Among b (voted_blocks (steps_of i o)) → Among b (voted_blocks (steps_of i whole))
voted-later o whole g i b m =
    subst (λ (x : Order). Among b (voted_blocks (steps_of i x))) g.1 (voted-added g.0 o i b m)

-- a vote for a lower block came first
lower-added : (s : Sizes) (is_member : ℕ → Bool) (added o : Order) → IsLawfulOrder s is_member (added ++ o)
    → (i : ℕ) → is_member i ≡ true → (a b : Branch)
    → Among a (voted_blocks (steps_of i o)) → Among b (voted_blocks (steps_of i (added ++ o)))
    → length b < length a
    → Among b (voted_blocks (steps_of i o))
lower-added s is_member [] o l i mi a b m n h = n
lower-added s is_member (p ∷ added) o l i mi a b m n h =
    lower-added s is_member added o (lawful-older s is_member p (added ++ o) l) i mi a b m
    (lower-earlier s p (added ++ o) i a b (l.lawful i mi) (voted-added (p ∷ added) o i a m) n h) h

-- who voted for a in it, and at any time for a lower b, voted for b in it
pub lower-within : (s : Sizes) (is_member : ℕ → Bool) (o whole : Order) → IsBeginning o whole
    → IsLawfulOrder s is_member whole → (i : ℕ) → is_member i ≡ true → (a b : Branch)
    → Among a (voted_blocks (steps_of i o)) → Among b (voted_blocks (steps_of i whole)) → length b < length a
    → Among b (voted_blocks (steps_of i o))
lower-within s is_member o whole g l i mi a b m n h =
    lower-added s is_member g.0 o (subst (IsLawfulOrder s is_member) (sym g.1) l) i mi a b m
    (subst (λ (x : Order). Among b (voted_blocks (steps_of i x))) (sym g.1) n) h

-- ---- certified blocks

-- the test for a vote decides it
pub any-among : (b : Branch) (xs : List Branch) → list_any (branch_eq b) xs ≡ true → Among b xs
any-among b [] h = absurd (true≢false (sym h))
any-among b (x ∷ xs) h =
    elim (or_cases _ _ h) [ inl e ↦ inl ((branch_eq-decides b x).0 e) | inr k ↦ inr (any-among b xs k) ]

-- and the other way
pub among-any : (b : Branch) (xs : List Branch) → Among b xs → list_any (branch_eq b) xs ≡ true
among-any b [] m = absurd m
among-any b (x ∷ xs) (inl e) = or_left _ _ ((branch_eq-decides b x).1 e)
among-any b (x ∷ xs) (inr m) = or_right _ _ (among-any b xs m)

-- a member that supports b voted for it
supporter-voted : (fam : Family) (b : Branch) (i : ℕ) → fam.is_member i ≡ true → supports fam b i ≡ true
    → Among b (voted_blocks (fam.chronicle i))
unfolding supports
supporter-voted fam b i m h = any-among b (voted_blocks (fam.chronicle i)) (sym (cond-true _ _ _ m) ∙ h)

-- who, if a member, voted for b supports it
supports-from : (fam : Family) (b : Branch) (i : ℕ)
    → (fam.is_member i ≡ true → Among b (voted_blocks (fam.chronicle i))) → supports fam b i ≡ true
unfolding supports
supports-from fam b i h = cond_both (fam.is_member i) _ true (λ (t : Bool). t ≡ true)
    (λ m. among-any b (voted_blocks (fam.chronicle i)) (h m)) (λ n. refl)

-- what may be certified by the steps of an order may be certified after one more
certified-grows : (s : Sizes) (is_member : ℕ → Bool) (p : ℕ × Step) (o : Order) (b : Branch)
    → MayBeCertified (family_at s is_member o) b → MayBeCertified (family_at s is_member (p ∷ o)) b
certified-grows s is_member p o b h =
    let k = count-mono (replicas s) (supports (family_at s is_member o) b)
    (supports (family_at s is_member (p ∷ o)) b)
    (λ i l t. supports-from (family_at s is_member (p ∷ o)) b i
    (λ mi. order-grows p.0 p.1 o i b (supporter-voted (family_at s is_member o) b i mi t))) in
    omega (arith, h, k)

-- what the blocks that this chronicle took justify may be certified by the steps of this order
abbrev pub JustifiesCertified : Sizes → (ℕ → Bool) → Chronicle → Order → Type 0
JustifiesCertified s is_member c o =
    (a : Admitted) → Among a (taken_blocks c) → 0 < length (just1 a.branch)
    → MayBeCertified (family_at s is_member o) (just1 a.branch)

-- from here on: enough members for a quorum
module _ (s : Sizes) (is_member : ℕ → Bool) (enough : quorum s ≤ count_below (replicas s) is_member) where
  -- what the blocks that members took in an order justify may be certified in it
  abbrev EachJustifiesCertified : Order → Type 0
  EachJustifiesCertified o = (i : ℕ) → is_member i ≡ true → JustifiesCertified s is_member (steps_of i o) o

  -- the block that a member's newest step takes justifies what could be certified before
  step-certified : (o : Order) → EachJustifiesCertified o → (i : ℕ) → is_member i ≡ true → (a : Admitted)
      → a.new ≡ true → IsLawfulTake s a (steps_of i o) → IsBacked is_member (took_block a) o
      → 0 < length (just1 a.branch) → MayBeCertified (family_at s is_member o) (just1 a.branch)
  step-certified o older i mi a new law backed h =
      let fam : Family = family_at s is_member o in
      elim law.certified [
        | by_genesis e ↦ absurd (omega (arith, h, ap (λ (z : Branch). length z) e))
        | by_votes q ↦ omega (
          arith,
          q.2,
          count-listed (replicas s) (supports fam (just1 a.branch)) a.counted q.0 q.1
              (λ v k. supports-from fam (just1 a.branch) v (λ mv. (backed new v mv).0 k)),
        )
        | by_take x m e ↦ subst (MayBeCertified fam) e
            (older i mi x m (omega (arith, h, ap (λ (z : Branch). length z) e)))
        | by_senders q ↦
            let v = some-member s is_member a.senders enough q.0 q.1 q.2 in
            let y = (backed new v.0 v.2).1 v.1 in
            let e : just1 y.0.branch ≡ just1 a.branch = ap just1 y.2 in
            subst (MayBeCertified fam) e
            (older v.0 v.2 y.0 y.1 (omega (arith, h, ap (λ (z : Branch). length z) e)))
      ]

  -- so each taken block of a member justifies what could be certified before the newest step
  older-certified : (p : ℕ × Step) (o : Order) → EachJustifiesCertified o → IsLawfulOrder s is_member (p ∷ o)
      → (i : ℕ) → is_member i ≡ true → JustifiesCertified s is_member (steps_of i (p ∷ o)) o
  unfolding steps_of
  older-certified p o older l i mi =
      cond_both (p.0 == i) (p.1 ∷ steps_of i o) (steps_of i o)
      (λ (c : Chronicle). IsLawful s c → JustifiesCertified s is_member c o)
      (λ e lc a m h. elim (taken-now p.1 (steps_of i o) a m) [
        | inl now ↦ step-certified o older i mi a now.1
            ((subst (λ (x : Step). IsLawfulStep s x (steps_of i o)) now.0 lc.0).1 now.1)
            (subst (λ (x : Step). IsBacked is_member x o) now.0 l.ordered.0) h
        | inr k ↦ older i mi a k h
      ])
      (λ e lc. older i mi) (l.lawful i mi)

  -- by induction on the order: what a block justifies that a member took may be certified
  pub taken-certified : (o : Order) → IsLawfulOrder s is_member o → EachJustifiesCertified o
  unfolding steps_of taken_blocks
  taken-certified [] l i mi a m h = absurd m
  taken-certified (p ∷ o) l i mi a m h =
      certified-grows s is_member p o (just1 a.branch)
      (older-certified p o (taken-certified o (lawful-older s is_member p o l)) l i mi a m h)

  -- also before the newest step
  pub certified-before : (p : ℕ × Step) (o : Order) → IsLawfulOrder s is_member (p ∷ o) → (i : ℕ)
      → is_member i ≡ true → JustifiesCertified s is_member (steps_of i (p ∷ o)) o
  certified-before p o l = older-certified p o (taken-certified o (lawful-older s is_member p o l)) l

-- so may what a block of the tree justifies
pub certified : (s : Sizes) (is_member : ℕ → Bool) (o : Order) (c : Chronicle)
    → JustifiesCertified s is_member c o → (b : Branch) → Among b (tree c) → 0 < length (just1 b)
    → MayBeCertified (family_at s is_member o) (just1 b)
certified s is_member o c taken b m h =
    let a = tree-taken c b m (omega (arith, length-extends b (just1 b) (just1-extends b))) in
    let high : 0 < length (just1 a.0.branch) = omega (arith, h, ap (λ (z : Branch). length (just1 z)) a.2) in
    subst (λ (x : Branch). MayBeCertified (family_at s is_member o) (just1 x)) a.2 (taken a.0 a.1 high)

-- a lock above genesis is certified
pub lock-certified : (s : Sizes) (is_member : ℕ → Bool) (o : Order) (c : Chronicle) → IsLawful s c
    → JustifiesCertified s is_member c o → 0 < length (lock c)
    → MayBeCertified (family_at s is_member o) (lock c)
lock-certified s is_member o c l taken h =
    elim (lock-cases c) [
      | inl e ↦ absurd (omega (arith, ap (λ (z : Branch). length z) e))
      | inr a ↦ (
          let same : just1 (just1 a.0.branch) ≡ lock c = just2-is a.0.branch ∙ sym a.2 in
          subst (MayBeCertified (family_at s is_member o)) same
          (certified s is_member o c taken (just1 a.0.branch)
          (tree-just1 s c l a.0.branch (taken-tree c a.0 a.1))
          (omega (arith, h, ap (λ (z : Branch). length z) same))))
    ]

-- a member voted for both of two certified blocks
pub voted-both : (s : Sizes) (is_member : ℕ → Bool) → quorum s ≤ count_below (replicas s) is_member
    → (o r : Order) (a b : Branch) → MayBeCertified (family_at s is_member o) a
    → MayBeCertified (family_at s is_member r) b
    → (i : ℕ) × (is_member i ≡ true) × Among a (voted_blocks (steps_of i o))
    × Among b (voted_blocks (steps_of i r))
voted-both s is_member enough o r a b p q =
    let f : Family = family_at s is_member o in
    let g : Family = family_at s is_member r in
    let i = shared s is_member (supports f a) (supports g b) enough p q in
    (i.0, i.1, supporter-voted f a i.0 i.1 i.2, supporter-voted g b i.0 i.1 i.3)
