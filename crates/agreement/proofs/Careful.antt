-- Careful votes: what is certified has no block above a decided one that justifies one below that.
use Rattle.std.proofs.Common.{ℕ, zero, suc, ◌≡◌, ◌<◌, ◌≤◌, ◌⊎◌, Bool, true, false, cond, [], ◌∷◌, length, refl, sym}
use Rattle.std.proofs.Common.{ap, subst, ◌∙◌, arith, inl, inr}
use Rattle.std.proofs.lemmas.Bool.{and_parts, cases_lt, cases_eq, cases_Bool, cond-true, leb-true, ltb-false}
use lib.Dec.{ltb}
use Rattle.definitions.specs.Lists.{Among, beginning, count_below}
use Rattle.definitions.specs.Branches.{Branch, just1, justify_height, Extends, IsBranch}
use Rattle.ids.specs.Sizes.{Sizes, replicas, quorum}
use Rattle.definitions.specs.Chronicles.{Admitted, Step.took_block, Step.noted, Chronicle, voted_blocks, lock}
use Rattle.definitions.specs.Chronicles.{IsLawful}
use Rattle.definitions.specs.Careful.{justifies_from, is_careful, AreCareful}
use Rattle.definitions.specs.Agreement.{MayBeCertified, supports, Order, steps_of}
use Rattle.definitions.proofs.Lists.{IsBeginning-beginning}
use Rattle.definitions.proofs.Branches.{extends-cases, extends-between, length-extends, just1-extends, just1-below}
use Rattle.definitions.proofs.Branches.{justify_height-just1, Extends-trans}
use Rattle.definitions.proofs.Chronicles.{voted-cases, vote-higher, same-vote, voted-tree, tree-branch}
use Rattle.definitions.proofs.Chronicles.{lawful-taken}
use Rattle.agreement.specs.Law.{NoneJustifiesBelow}
use Rattle.agreement.proofs.Certified.{family_at, IsLawfulOrder, taken-certified}
use Rattle.agreement.proofs.Certified.{certified, voted-both}
use Rattle.agreement.proofs.Agreement.{IsChain, one-certified, lock-high, lawful-order, family-chain, supports-same}

-- what the test says of each block of the branch
justifies-each : (least height : ℕ) (b : Branch) → justifies_from least height b ≡ true
    → (x : Branch) → Extends b x → height < length x → least ≤ justify_height x
unfolding justifies_from justify_height
justifies-each least height [] h x e l = absurd (let k = length-extends [] x e in omega (arith, k, l))
justifies-each least height (b ∷ parent) h x e l =
    elim (cases_Bool (ltb height (suc (length parent)))) [
      | inl t ↦ (let p = and_parts _ _ (sym (cond-true _ _ _ t) ∙ h) in
          elim (extends-cases b parent x e) [
            | inl i ↦ subst (λ (z : Branch). least ≤ justify_height z) (sym i) (leb-true _ _ p.0)
            | inr k ↦ justifies-each least height parent p.1 x k l
          ])
      | inr f ↦ absurd (let k = length-extends (b ∷ parent) x e in let m = ltb-false height
          (suc (length parent)) f in omega (arith, k, m, l))
    ]

-- a vote of this step was careful, or the vote is an earlier one
careful-now : (a : Admitted) (c : Chronicle) (b : Branch) (t : Bool) → a.voted ≡ t
    → (a.voted ≡ true → is_careful a.branch c ≡ true)
    → Among b (cond t (a.branch ∷ voted_blocks c) (voted_blocks c))
    → (is_careful b c ≡ true) ⊎ Among b (voted_blocks c)
careful-now a c b true e law (inl i) = inl (subst (λ (x : Branch). is_careful x c ≡ true) (sym i) (law e))
careful-now a c b true e law (inr m) = inr m
careful-now a c b false e law m = inr m

-- of two votes the lower one came first
lower-older : (s : Sizes) (a : Admitted) (c : Chronicle) (low high : Branch) → IsLawful s (took_block a ∷ c)
    → Among low (voted_blocks (took_block a ∷ c)) → Among high (voted_blocks (took_block a ∷ c))
    → length low < length high → Among low (voted_blocks c)
lower-older s a c low high l m n h =
    elim (voted-cases s (took_block a) c low l m) [
      | inr k ↦ k
      | inl v ↦ (elim (voted-cases s (took_block a) c high l n) [
        | inl w ↦ absurd (omega (arith, h, ap (λ (z : Branch). length z) (same-vote low high _ c v w)))
        | inr k ↦ absurd (omega (arith, h, vote-higher low high _ c v k))
      ])
    ]

-- so the higher one was careful when the lower one stood
careful-vote : (s : Sizes) (c : Chronicle) → IsLawful s c → AreCareful c → (low high : Branch)
    → Among low (voted_blocks c) → Among high (voted_blocks c) → length low < length high
    → (e : Chronicle) × IsLawful s e × Among low (voted_blocks e) × (is_careful high e ≡ true)
unfolding voted_blocks
careful-vote s [] l k low high m n h = absurd m
careful-vote s (took_block a ∷ c) l k low high m n h =
    let older = lower-older s a c low high l m n h in
    elim (careful-now a c high a.voted refl k.0 n) [
      | inl e ↦ (c, l.1, older, e)
      | inr y ↦ careful-vote s c l.1 k.1 low high older y h
    ]
careful-vote s (noted n2 ∷ c) l k low high m n h = careful-vote s c l.1 k low high m n h

-- a careful block, by the test
is-from : (b : Branch) (c : Chronicle) → is_careful b c ≡ true
    → justifies_from (length (lock c)) (justify_height b) b ≡ true
unfolding is_careful
is-from b c h = h

-- two blocks of one height in one branch are the same
same-height : (b x y : Branch) → Extends b x → Extends b y → length x ≡ length y → x ≡ y
same-height b x y e f h =
    sym (IsBeginning-beginning x b e) ∙ (ap (λ (k : ℕ). beginning k b) h ∙ IsBeginning-beginning y b f)

module _ (s : Sizes) (is_member : ℕ → Bool) (enough : quorum s ≤ count_below (replicas s) is_member)
    (whole : Order) (course : IsLawfulOrder s is_member whole) where
  -- a certified block was voted for, so it justifies one below itself
  certified-branch : (x : Branch) → MayBeCertified (family_at s is_member whole) x → IsBranch x
  certified-branch x p =
      let i = voted-both s is_member enough whole whole x x p p in
      let c : Chronicle = steps_of i.0 whole in
      let l = course.lawful i.0 i.1 in
      tree-branch s c (λ a m. lawful-taken s c l a m) x (voted-tree s c l x i.2)

  module _ (b : Branch) (chain : IsChain (family_at s is_member whole) b)
      (careful : (i : ℕ) → is_member i ≡ true → AreCareful (steps_of i whole)) where
    -- the two above b justify none below it
    chain-justifies : (x : Branch) → Extends chain.top x → length b < length x → length b ≤ justify_height x
    chain-justifies x e h =
        let short = length-extends chain.top x e in
        let up : Extends chain.top chain.middle =
        subst (λ (z : Branch). Extends chain.top z) chain.middle_is (just1-extends chain.top) in
        elim (cases_eq (length x) (length chain.top)) [
          | inl t ↦ (
              let same : chain.top ≡ x = same-height chain.top chain.top x ([], refl) e (sym t) in
              let j = justify_height-just1 chain.top (certified-branch chain.top chain.top_certified) in
              subst (λ (z : Branch). length b ≤ justify_height z) same
              (omega (arith, j, chain.middle_height, ap (λ (z : Branch). length z) chain.middle_is)))
          | inr t ↦ (
              let same : chain.middle ≡ x = same-height chain.top chain.middle x up e
              (omega (arith, short, t, h, chain.middle_height, chain.top_height)) in
              let j = justify_height-just1 chain.middle
              (certified-branch chain.middle chain.middle_certified) in
              subst (λ (z : Branch). length b ≤ justify_height z) same
              (omega (arith, j, ap (λ (z : Branch). length z) chain.decides_it)))
        ]

    -- what is certified no higher than the top is one of them
    near-justifies : (c : Branch) → MayBeCertified (family_at s is_member whole) c → length c ≤ length chain.top
        → (x : Branch) → Extends c x → length b < length x → length b ≤ justify_height x
    near-justifies c p near x e h =
        let short = length-extends c x e in
        let up : Extends chain.top chain.middle =
        subst (λ (z : Branch). Extends chain.top z) chain.middle_is (just1-extends chain.top) in
        elim (cases_eq (length c) (length chain.top)) [
          | inl t ↦ chain-justifies x (subst (λ (z : Branch). Extends z x)
              (one-certified s is_member enough whole course whole ([], refl) c chain.top p chain.top_certified t)
              e) h
          | inr t ↦ chain-justifies x (Extends-trans chain.top chain.middle x up
              (subst (λ (z : Branch). Extends z x)
              (one-certified s is_member enough whole course whole ([], refl) c chain.middle p
              chain.middle_certified (omega (arith, short, near, t, h, chain.middle_height, chain.top_height)))
              e)) h
        ]

    -- so does all that is certified: who voted for it had voted for the top, so had b locked
    justifies-below : (k : ℕ) (c : Branch) → length c ≤ k → MayBeCertified (family_at s is_member whole) c
        → (x : Branch) → Extends c x → length b < length x → length b ≤ justify_height x
    justifies-below zero c low p x e h = absurd (let short = length-extends c x e in omega (arith, short, low, h))
    justifies-below (suc k) c low p x e h =
        elim (cases_lt (length chain.top) (length c)) [
          | inr near ↦ near-justifies c p near x e h
          | inl high ↦ (
              let i = voted-both s is_member enough whole whole c chain.top p chain.top_certified in
              let own : Chronicle = steps_of i.0 whole in
              let l = course.lawful i.0 i.1 in
              let v = careful-vote s own l (careful i.0 i.1) chain.top c i.3 i.2 high in
              let locked = lock-high s is_member enough whole course b chain v.0 v.1 v.2 in
              let y : Branch = just1 c in
              let is_branch = certified-branch c p in
              let j = justify_height-just1 c is_branch in
              elim (cases_lt (justify_height c) (length x)) [
                | inl above ↦ (let r = justifies-each _ (justify_height c) c (is-from c v.0 v.3) x e above in
                    omega (arith, r, locked))
                | inr below ↦ (
                    let shorter = just1-below c is_branch (omega (arith, high)) in
                    justifies-below k y (omega (arith, shorter, low))
                    (certified s is_member whole own (taken-certified s is_member enough whole course i.0 i.1) c
                    (voted-tree s own l c i.2) (omega (arith, j, below, h)))
                    x (extends-between c y x (just1-extends c) e (omega (arith, j, below))) h)
              ])
        ]

-- none justifies one below what was decided
pub none-justifies-below : NoneJustifiesBelow
none-justifies-below fam c b x l careful p d e h =
    let o : Order = l.orderly.order in
    let same : supports fam c ≡ supports (family_at fam.sizes fam.is_member o) c =
    (λ k i. supports-same fam l c i k) in
    elim (family-chain fam l b d) [
      | inl i ↦ (let z = ap (λ (z : Branch). length z) i in omega (arith, z))
      | inr chain ↦ justifies-below fam.sizes fam.is_member l.enough o (lawful-order fam l) b chain
          (λ i mi. subst AreCareful (sym (l.orderly.whole i mi)) (careful i mi)) (length c) c (omega arith)
          (subst (λ (f : ℕ → Bool). quorum fam.sizes ≤ count_below (replicas fam.sizes) f) same p) x e h
    ]
