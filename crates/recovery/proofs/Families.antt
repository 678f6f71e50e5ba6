-- Lawful families: what members took, and are locked on, is certified, and more than f members took it.
use Rattle.std.proofs.Common.{ℕ, ◌≡◌, ◌<◌, ◌≤◌, ◌&&◌, Bool, true, [], length, refl, sym, subst, ◌∙◌, arith}
use Rattle.std.proofs.lemmas.Bool.{cond-true, and_parts}
use Rattle.ids.specs.Sizes.{replicas, quorum}
use Rattle.definitions.specs.Lists.{Among, count_below}
use Rattle.definitions.specs.Branches.{Branch, just1, Extends}
use Rattle.definitions.specs.Chronicles.{Admitted, Chronicle, voted_blocks, taken_blocks, tree, lock}
use Rattle.definitions.specs.Agreement.{Family, IsLawfulFamily, MayBeCertified, supports, Order}
use Rattle.definitions.proofs.Chronicles.{voted-tree, tree-extends}
use Rattle.definitions.proofs.Counts.{overlap, count-mono}
use Rattle.agreement.proofs.Agreement.{lawful-order, supports-same, one-certified}
use Rattle.agreement.proofs.Certified.{family_at, any-among, taken-certified, lock-certified}

-- from here on: a lawful family
module _ (fam : Family) (l : IsLawfulFamily fam) where
  -- who may count as voter is the same by the order of its steps
  same-supports : (b : Branch)
      → supports fam b ≡ supports (family_at fam.sizes fam.is_member l.orderly.order) b
  same-supports b = λ k i. supports-same fam l b i k

  -- what is certified by the order of its steps is
  by-order : (b : Branch) → MayBeCertified (family_at fam.sizes fam.is_member l.orderly.order) b
      → MayBeCertified fam b
  by-order b p =
      subst (λ (f : ℕ → Bool). quorum fam.sizes ≤ count_below (replicas fam.sizes) f) (sym (same-supports b)) p

  -- and the other way
  pub to-order : (b : Branch) → MayBeCertified fam b
      → MayBeCertified (family_at fam.sizes fam.is_member l.orderly.order) b
  to-order b p =
      subst (λ (f : ℕ → Bool). quorum fam.sizes ≤ count_below (replicas fam.sizes) f) (same-supports b) p

  -- what a block justifies that a member took is certified
  pub justified-certified : (i : ℕ) → fam.is_member i ≡ true → (a : Admitted)
      → Among a (taken_blocks (fam.chronicle i)) → 0 < length (just1 a.branch)
      → MayBeCertified fam (just1 a.branch)
  justified-certified i mi a m h =
      by-order (just1 a.branch)
      (taken-certified fam.sizes fam.is_member l.enough l.orderly.order (lawful-order fam l) i mi a
      (subst (λ (c : Chronicle). Among a (taken_blocks c)) (sym (l.orderly.whole i mi)) m) h)

  -- so is a member's lock above genesis
  pub locked-certified : (i : ℕ) → fam.is_member i ≡ true → 0 < length (lock (fam.chronicle i))
      → MayBeCertified fam (lock (fam.chronicle i))
  locked-certified i mi =
      subst (λ (c : Chronicle). 0 < length (lock c) → MayBeCertified fam (lock c)) (l.orderly.whole i mi)
      (λ h. by-order _ (lock-certified fam.sizes fam.is_member l.orderly.order _
      ((lawful-order fam l).lawful i mi)
      (taken-certified fam.sizes fam.is_member l.enough l.orderly.order (lawful-order fam l) i mi) h))

  -- of each height one block at most is certified
  pub one-of-height : (a b : Branch) → MayBeCertified fam a → MayBeCertified fam b → length a ≡ length b → a ≡ b
  one-of-height a b p q e =
      let o : Order = l.orderly.order in
      one-certified fam.sizes fam.is_member l.enough o (lawful-order fam l) o ([], refl) a b (to-order a p)
      (to-order b q) e

  -- a member that supports a block took it, and all below it
  supporter-took : (b : Branch) (i : ℕ) → fam.is_member i ≡ true → supports fam b i ≡ true
      → (x : Branch) → Extends b x → Among x (tree (fam.chronicle i))
  unfolding supports
  supporter-took b i mi h x e =
      tree-extends fam.sizes (fam.chronicle i) (l.lawful i mi) b x
      (voted-tree fam.sizes (fam.chronicle i) (l.lawful i mi) b
      (any-among b (voted_blocks (fam.chronicle i)) (sym (cond-true _ _ _ mi) ∙ h))) e

  -- more than f members took what is certified, and all below it
  pub certified-held : (b : Branch) → MayBeCertified fam b → (x : Branch) → Extends b x → (p : ℕ → Bool)
      → ((i : ℕ) → fam.is_member i ≡ true → Among x (tree (fam.chronicle i)) → p i ≡ true)
      → fam.sizes.faults < count_below (replicas fam.sizes) p
  certified-held b c x e p h =
      let n : ℕ = replicas fam.sizes in
      let both = overlap n fam.is_member (supports fam b) in
      let more = count-mono n (λ i. fam.is_member i && supports fam b i) p
      (λ i low t. let k = and_parts (fam.is_member i) (supports fam b i) t in
      h i k.0 (supporter-took b i k.0 k.1 x e)) in
      omega (arith, both, more, c, l.enough)
