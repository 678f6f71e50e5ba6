-- Of two decided branches one extends the other: what is certified, no lower than a decided branch, extends
-- it.
use Rattle.std.proofs.Common.{ℕ, suc, ◌≡◌, ◌<◌, ◌≤◌, ◌⊎◌, Bool, true, false, cond, [], ◌∷◌, ◌++◌, length}
use Rattle.std.proofs.Common.{refl, sym, ap, subst, ◌∙◌, arith, inl, inr, append_assoc, append-nil}
use Rattle.std.proofs.lemmas.Bool.{and_parts, eqb-true, cases_lt, cases_eq}
use Rattle.std.specs.List.{list_any}
use Rattle.definitions.specs.Lists.{Among, IsBeginning, count_below}
use Rattle.definitions.specs.Branches.{Branch, just1, just2, just3, Extends, branch_eq}
use Rattle.ids.specs.Sizes.{Sizes, replicas, quorum}
use Rattle.definitions.specs.Chronicles.{Admitted, Step, Chronicle, voted_blocks, taken_blocks, tree, lock}
use Rattle.definitions.specs.Chronicles.{decides}
use Rattle.definitions.specs.Chronicles.{decided, IsLawful}
use Rattle.definitions.specs.Agreement.{Family, MayBeCertified, supports, Order, steps_of, IsLawfulFamily}
use Rattle.definitions.proofs.Branches.{just1-extends, Extends-trans, just2-is, just3-is}
use Rattle.definitions.proofs.Chronicles.{voted-tree, one-vote, IsVote, lock-above, tree-taken, tree-just1}
use Rattle.definitions.proofs.Chronicles.{taken-tree, decided-cases}
use Rattle.agreement.specs.Law.{IsDecided, OneExtends, NoConflict, CertifiedExtends}
use Rattle.agreement.proofs.Certified.{family_at, IsLawfulOrder, order-cases, lower-earlier, lower-within}
use Rattle.agreement.proofs.Certified.{lawful-older, lawful-beginning, voted-later, JustifiesCertified}
use Rattle.agreement.proofs.Certified.{certified-before, taken-certified, certified, lock-certified}
use Rattle.agreement.proofs.Certified.{voted-both}

-- a beginning without its newest step is one
beginning-older : (p : ℕ × Step) (o whole : Order) → IsBeginning (p ∷ o) whole → IsBeginning o whole
beginning-older p o whole g = (g.0 ++ (p ∷ []), rw append_assoc g.1)

-- b and the two blocks above it, which decide it: top justifies middle, and middle justifies b
pub record IsChain (fam : Family) (b : Branch) : Type 0 where
  pub top : Branch
  pub middle : Branch
  pub middle_is : just1 top ≡ middle
  pub decides_it : just1 middle ≡ b
  pub middle_height : length middle ≡ suc (length b)
  pub top_height : length top ≡ suc (suc (length b))
  pub above : 0 < length b
  pub top_certified : MayBeCertified fam top
  pub middle_certified : MayBeCertified fam middle
  pub own_certified : MayBeCertified fam b

-- a branch above genesis that is decided has its chain
chain-of : (s : Sizes) (is_member : ℕ → Bool) (o : Order) (c : Chronicle) → IsLawful s c
    → JustifiesCertified s is_member c o → (b : Branch) → (a : Admitted) → Among a (taken_blocks c) → b ≡ just3 a.branch
    → decides a.branch ≡ true → 0 < length b
    → IsChain (family_at s is_member o) b
unfolding decides
chain-of s is_member o c l taken b a m e d h =
    let x : Branch = a.branch in
    let fam : Family = family_at s is_member o in
    let heights = and_parts _ _ d in
    let low : length (just2 x) ≡ suc (length (just3 x)) = eqb-true _ _ heights.0 in
    let high : length (just1 x) ≡ suc (length (just2 x)) = eqb-true _ _ heights.1 in
    let own : length b ≡ length (just3 x) = ap (λ (z : Branch). length z) e in
    let in1 : Among (just1 x) (tree c) = tree-just1 s c l x (taken-tree c a m) in
    let in2 : Among (just2 x) (tree c) =
    subst (λ (z : Branch). Among z (tree c)) (just2-is x) (tree-just1 s c l (just1 x) in1) in
    record {
      top = just1 x;
      middle = just2 x;
      middle_is = just2-is x;
      decides_it = just3-is x ∙ sym e;
      middle_height = omega (arith, low, own);
      top_height = omega (arith, low, high, own);
      above = h;
      top_certified = taken a m (omega (arith, high));
      middle_certified = subst (MayBeCertified fam) (just2-is x)
          (certified s is_member o c taken (just1 x) in1
          (omega (arith, low, ap (λ (z : Branch). length z) (just2-is x))));
      own_certified = subst (MayBeCertified fam) (just3-is x ∙ sym e)
          (certified s is_member o c taken (just2 x) in2
          (omega (arith, h, own, ap (λ (z : Branch). length z) (just3-is x))));
    }

-- from here on: one order of the members' steps, enough members for a quorum, each step lawful
module _ (s : Sizes) (is_member : ℕ → Bool) (enough : quorum s ≤ count_below (replicas s) is_member)
    (whole : Order) (course : IsLawfulOrder s is_member whole) where
  -- of each height one branch at most is certified
  pub one-certified : (o : Order) → IsBeginning o whole → (a b : Branch)
      → MayBeCertified (family_at s is_member o) a → MayBeCertified (family_at s is_member whole) b
      → length a ≡ length b → a ≡ b
  one-certified o g a b p q e =
      let i = voted-both s is_member enough o whole a b p q in
      one-vote s (steps_of i.0 whole) (course.lawful i.0 i.1) a b (voted-later o whole g i.0 a i.2) i.3 e

  -- and in it one decided branch
  module _ (b : Branch) (chain : IsChain (family_at s is_member whole) b) where
    -- the two above b extend it
    middle-extends : Extends chain.middle b
    middle-extends =
        subst (λ (x : Branch). Extends chain.middle x) chain.decides_it (just1-extends chain.middle)

    top-extends : Extends chain.top b
    top-extends = Extends-trans chain.top chain.middle b
        (subst (λ (x : Branch). Extends chain.top x) chain.middle_is (just1-extends chain.top))
        middle-extends

    -- what is certified, no lower than b and no higher than the top, extends b
    near-extends : (o : Order) → IsBeginning o whole → (x : Branch)
        → MayBeCertified (family_at s is_member o) x → length b ≤ length x → length x ≤ length chain.top
        → Extends x b
    near-extends o g x p low high =
        elim (cases_eq (length x) (length b)) [
          | inl e ↦ ([], sym (one-certified o g x b p chain.own_certified e))
          | inr d ↦ (elim (cases_eq (length x) (length chain.middle)) [
            | inl e ↦ subst (λ (z : Branch). Extends z b)
                (sym (one-certified o g x chain.middle p chain.middle_certified e)) middle-extends
            | inr f ↦ subst (λ (z : Branch). Extends z b) (sym (one-certified o g x chain.top p
                chain.top_certified (omega (arith, chain.middle_height, chain.top_height)))) top-extends
          ])
        ]

    -- in this beginning, what a member voted for after the top extends b
    abbrev VotesExtend : Order → Type 0
    VotesExtend o =
        (i : ℕ) → is_member i ≡ true → (x : Branch) → Among x (voted_blocks (steps_of i o))
        → Among chain.top (voted_blocks (steps_of i o)) → length chain.top < length x → Extends x b

    -- so what is certified in it, no lower than b, extends b
    certified-extends : (o : Order) → IsBeginning o whole → VotesExtend o → (x : Branch)
        → MayBeCertified (family_at s is_member o) x → length b ≤ length x → Extends x b
    certified-extends o g votes x p low =
        elim (cases_lt (length chain.top) (length x)) [
          | inl high ↦ (
              let i = voted-both s is_member enough o whole x chain.top p chain.top_certified in
              votes i.0 i.1 x i.2
              (lower-within s is_member o whole g course i.0 i.1 x chain.top i.2 i.3 high) high)
          | inr near ↦ near-extends o g x p low near
        ]

    -- the lock of a member that voted for the top is no lower than b
    pub lock-high : (c : Chronicle) → IsLawful s c → Among chain.top (voted_blocks c) → length b ≤ length (lock c)
    lock-high c l m =
        let a = tree-taken c chain.top (voted-tree s c l chain.top m) (omega (arith, chain.top_height)) in
        let same : just2 a.0.branch ≡ b =
        ap just2 a.2 ∙ (sym (just2-is chain.top) ∙ (ap just1 chain.middle_is ∙ chain.decides_it)) in
        omega (arith, lock-above c a.0 a.1, ap (λ (z : Branch). length z) same)

    -- so its next vote extends b, where all that was certified before does
    vote-extends : (p : ℕ × Step) (o : Order) → IsLawfulOrder s is_member (p ∷ o) → (i : ℕ)
        → is_member i ≡ true → (x : Branch) → IsVote x (steps_of i (p ∷ o)) (steps_of i o)
        → Among chain.top (voted_blocks (steps_of i o))
        → ((y : Branch) → MayBeCertified (family_at s is_member o) y → length b ≤ length y → Extends y b)
        → Extends x b
    vote-extends p o l i mi x v m before =
        let c : Chronicle = steps_of i o in
        let own : IsLawful s c = (lawful-older s is_member p o l).lawful i mi in
        let high : length b ≤ length (lock c) = lock-high c own m in
        elim v.law.safe [
          | inl e ↦ Extends-trans x (lock c) b e (before (lock c)
              (lock-certified s is_member o c own
              (taken-certified s is_member enough o (lawful-older s is_member p o l) i mi)
              (omega (arith, chain.above, high))) high)
          | inr k ↦ Extends-trans x (just1 x) b (just1-extends x)
              (before (just1 x) (certified s is_member o (steps_of i (p ∷ o))
              (certified-before s is_member enough p o l i mi) x v.law.taken (omega (arith, k)))
              (omega (arith, high, k)))
        ]

    -- by induction on the order: what a member's newest vote rests on was certified before it
    votes-extend : (o : Order) → IsBeginning o whole → VotesExtend o
    unfolding steps_of voted_blocks
    votes-extend [] g i mi x m n h = absurd m
    votes-extend (p ∷ o) g i mi x m n h =
        let l : IsLawfulOrder s is_member (p ∷ o) = lawful-beginning s is_member (p ∷ o) whole g course in
        let g2 : IsBeginning o whole = beginning-older p o whole g in
        let k : Among chain.top (voted_blocks (steps_of i o)) =
        lower-earlier s p o i x chain.top (l.lawful i mi) m n h in
        elim (order-cases s p o i x (l.lawful i mi) m) [
          | inr y ↦ votes-extend o g2 i mi x y k h
          | inl v ↦ vote-extends p o l i mi x v k (certified-extends o g2 (votes-extend o g2))
        ]

    -- what is certified, no lower than b, extends b
    extends-decided : (x : Branch) → MayBeCertified (family_at s is_member whole) x → length b ≤ length x
        → Extends x b
    extends-decided = certified-extends whole ([], refl) (votes-extend whole ([], refl))

  -- of two decided branches the higher extends the other
  chains-extend : (a b : Branch) → IsChain (family_at s is_member whole) a
      → IsChain (family_at s is_member whole) b → Extends a b ⊎ Extends b a
  chains-extend a b p q =
      elim (cases_lt (length a) (length b)) [
        | inl l ↦ inr (extends-decided a p b q.own_certified (omega (arith, l)))
        | inr l ↦ inl (extends-decided b q a p.own_certified l)
      ]

-- each branch extends genesis
extends-genesis : (a b : Branch) → b ≡ [] → Extends a b
extends-genesis a b e = subst (λ (x : Branch). Extends a x) (sym e) (a, append-nil a)

-- what is decided is genesis, or has its chain
decided-chain : (s : Sizes) (is_member : ℕ → Bool) → quorum s ≤ count_below (replicas s) is_member
    → (o : Order) → IsLawfulOrder s is_member o → (i : ℕ)
    → is_member i ≡ true → (b : Branch) → Among b (decided (steps_of i o))
    → (b ≡ []) ⊎ IsChain (family_at s is_member o) b
decided-chain s is_member enough o l i mi [] m = inl refl
decided-chain s is_member enough o l i mi (x ∷ b) m =
    elim (decided-cases (steps_of i o) (x ∷ b) m) [
      | inl e ↦ inl e
      | inr a ↦ inr (chain-of s is_member o (steps_of i o) (l.lawful i mi)
          (taken-certified s is_member enough o l i mi) (x ∷ b) a.0 a.1 a.2 a.3 (omega arith))
    ]

-- the order of a lawful family's steps
pub lawful-order : (fam : Family) (l : IsLawfulFamily fam) → IsLawfulOrder fam.sizes fam.is_member l.orderly.order
lawful-order fam l = record {
  ordered = l.orderly.ordered;
  lawful = λ v mv. subst (IsLawful fam.sizes) (sym (l.orderly.whole v mv)) (l.lawful v mv);
}

-- what is decided in a lawful family is genesis, or has its chain
pub family-chain : (fam : Family) (l : IsLawfulFamily fam) (b : Branch) → IsDecided fam b
    → (b ≡ []) ⊎ IsChain (family_at fam.sizes fam.is_member l.orderly.order) b
family-chain fam l b d =
    decided-chain fam.sizes fam.is_member l.enough l.orderly.order (lawful-order fam l) d.0 d.1 b
    (subst (λ (c : Chronicle). Among b (decided c)) (sym (l.orderly.whole d.0 d.1)) d.2)

-- of two decided branches one extends the other
pub one-extends : OneExtends
one-extends fam a b l da db =
    elim (family-chain fam l a da) [
      | inl e ↦ inr (extends-genesis b a e)
      | inr p ↦ (elim (family-chain fam l b db) [
        | inl e ↦ inl (extends-genesis a b e)
        | inr q ↦ chains-extend fam.sizes fam.is_member l.enough l.orderly.order (lawful-order fam l) a b p q
      ])
    ]

-- no two decided branches conflict
pub no-conflict : NoConflict
no-conflict fam a b l da db conflict =
    elim (one-extends fam a b l da db) [ inl e ↦ conflict.0 e | inr e ↦ conflict.1 e ]

-- who supports a branch doesn't depend on what stands for those that are no members
pub supports-same : (fam : Family) (l : IsLawfulFamily fam) (x : Branch) (i : ℕ)
    → supports fam x i ≡ supports (family_at fam.sizes fam.is_member l.orderly.order) x i
unfolding supports
supports-same fam l x i = by (fam.is_member i) (l.orderly.whole i)
  where
    by : (t : Bool) → (t ≡ true → steps_of i l.orderly.order ≡ fam.chronicle i)
        → cond t (list_any (branch_eq x) (voted_blocks (fam.chronicle i))) true
        ≡ cond t (list_any (branch_eq x) (voted_blocks (steps_of i l.orderly.order))) true
    by true e = ap (λ (c : Chronicle). list_any (branch_eq x) (voted_blocks c)) (sym (e refl))
    by false e = refl

-- what is certified, no lower than a decided branch, extends it
pub certified-extends-decided : CertifiedExtends
certified-extends-decided fam x b l p d low =
    let o : Order = l.orderly.order in
    let same : supports fam x ≡ supports (family_at fam.sizes fam.is_member o) x =
    (λ k i. supports-same fam l x i k) in
    elim (family-chain fam l b d) [
      | inl e ↦ extends-genesis x b e
      | inr c ↦ extends-decided fam.sizes fam.is_member l.enough o (lawful-order fam l) b c x
          (subst (λ (f : ℕ → Bool). quorum fam.sizes ≤ count_below (replicas fam.sizes) f) same p) low
    ]
