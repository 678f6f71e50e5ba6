-- What a lock stands on: more than f correct replicas took it, and all below it.
use Rattle.std.proofs.Common.{ℕ, ◌≡◌, ◌<◌, Bool, true, false, cond, List, [], length, refl, sym, ap, subst}
use Rattle.std.proofs.Common.{◌∙◌, ◌⊎◌, arith, inl, inr, reverse, find, Option, Some, None}
use Rattle.std.specs.List.{list_any}
use Rattle.std.proofs.lemmas.List.{reverse-reverse}
use Rattle.std.proofs.lemmas.Bool.{cases_lt, cond-true}
use Rattle.ids.specs.Sizes.{replicas}
use Rattle.definitions.specs.Lists.{Among, beginning}
use Rattle.definitions.specs.Branches.{Branch, justify_height, just1, just2, Extends, branch_eq}
use Rattle.definitions.specs.Chronicles.{Admitted, Chronicle, taken_blocks, tree, window, lock}
use Rattle.definitions.specs.Agreement.{IsLawfulFamily, MayBeCertified}
use Rattle.definitions.specs.Worlds.{World, is_correct}
use Rattle.definitions.proofs.Lists.{find_some, find_none, Among-reverse}
use Rattle.definitions.proofs.Branches.{branch_eq-decides, length-extends, just2-is}
use Rattle.definitions.proofs.Chronicles.{lock-cases, tree-genesis, tree-just1, taken-tree}
use Rattle.definitions.proofs.Counts.{count-mono}
use Rattle.definitions.proofs.Horizons.{window-all}
use Rattle.agreement.proofs.Certified.{among-any}
use Rattle.linear_law.specs.Law.{correct_family}
use Rattle.linear_law.proofs.WholeRuns.{chronicles-family}
use Rattle.recovery.specs.Correct.{chronicle_of, lock_of, correct_with}
use Rattle.recovery.specs.Healing.{justified_by}
use Rattle.recovery.specs.NeverWedged.{healer, ground_of}
use Rattle.recovery.specs.Locks.{JustifiedBlocksAreHeld, GroundsAreHeld}
use Rattle.recovery.proofs.Families.{justified-certified, certified-held}
use Rattle.recovery.proofs.Locks.{nil, healer-highest}

-- a correct replica that has a block counts
counts : (w : World) (those : Chronicle → List Branch) (x : Branch) (i : ℕ) → is_correct w i ≡ true
    → Among x (those (chronicle_of w i))
    → cond (is_correct w i) (list_any (branch_eq x) (those (chronicle_of w i))) false ≡ true
counts w those x i c m = cond-true (is_correct w i) _ false c ∙ among-any x (those (chronicle_of w i)) m

-- what is certified, or genesis, more than f correct replicas have where they have what they ever took
held-among : (w : World) → IsLawfulFamily (correct_family w) → (those : Chronicle → List Branch)
    → ((i : ℕ) → is_correct w i ≡ true → (x : Branch) → Among x (tree (chronicle_of w i))
    → Among x (those (chronicle_of w i)))
    → (b : Branch) → (0 < length b → MayBeCertified (correct_family w) b) → (x : Branch) → Extends b x
    → w.sizes.faults < correct_with w those x
held-among w l those has b certified x e =
    elim (cases_lt 0 (length b)) [
      | inl h ↦ certified-held (correct_family w) l b (certified h) x e _
          (λ i c m. counts w those x i c (has i c x m))
      | inr z ↦ (
          let k = length-extends b x e in
          let low : x ≡ [] = nil x (omega (arith, z, k)) in
          let more = count-mono (replicas w.sizes) (is_correct w)
          (λ i. cond (is_correct w i) (list_any (branch_eq x) (those (chronicle_of w i))) false)
          (λ i n c. counts w those x i c (has i c x
          (subst (λ (y : Branch). Among y (tree (chronicle_of w i))) (sym low)
          (tree-genesis (chronicle_of w i))))) in
          let enough = l.enough in
          omega (arith, more, enough))
    ]

-- so have they what a taken block justifies
justified-among : (w : World) → IsLawfulFamily (correct_family w) → (those : Chronicle → List Branch)
    → ((i : ℕ) → is_correct w i ≡ true → (x : Branch) → Among x (tree (chronicle_of w i))
    → Among x (those (chronicle_of w i)))
    → (r : ℕ) → is_correct w r ≡ true → (a : Admitted) → Among a (taken_blocks (chronicle_of w r))
    → (x : Branch) → Extends (just1 a.branch) x
    → w.sizes.faults < correct_with w those x
justified-among w l those has r c a m x e =
    held-among w l those has (just1 a.branch) (justified-certified (correct_family w) l r c a m) x e

pub justified-held : JustifiedBlocksAreHeld
justified-held sizes is_faulty ring hs last met e = λ r c a m x.
    justified-among last (chronicles-family sizes is_faulty ring hs last met e) tree (λ i d y n. n) r c a m x

-- ---- what justifies the highest lock

-- an element stands in the reverse too
pub reversed-among : {A : Type 0} (xs : List A) (x : A) → Among x xs → Among x (reverse xs)
reversed-among xs x m = Among-reverse (reverse xs) x (subst (λ (l : List _). Among x l) (sym (reverse-reverse xs)) m)

-- a test for what was taken over this lock
abbrev is_over : Branch → Admitted → Bool
is_over m a = branch_eq (just2 a.branch) m

-- a block that was taken over the lock, and what it justifies; or there is no such block, and both are genesis
abbrev pub GroundCases : Chronicle → Branch → Type 0
GroundCases c b =
    ((a : Admitted) × Among a (taken_blocks c) × (just2 a.branch ≡ lock c) × (b ≡ just1 a.branch))
    ⊎ ((b ≡ []) × (lock c ≡ []))

pub ground-cases : (c : Chronicle)
    → GroundCases c (justified_by (find (is_over (lock c)) (reverse (taken_blocks c))))
ground-cases c = by (find (is_over (lock c)) (reverse (taken_blocks c))) refl
  where
    by : (o : Option Admitted) → find (is_over (lock c)) (reverse (taken_blocks c)) ≡ o
        → GroundCases c (justified_by o)
    by (Some a) e =
        let r = find_some (is_over (lock c)) (reverse (taken_blocks c)) a e in
        inl (a, Among-reverse (taken_blocks c) a r.0, (branch_eq-decides (just2 a.branch) (lock c)).0 r.1, refl)
    by None e = elim (lock-cases c) [
      | inl z ↦ inr (refl, z)
      | inr r ↦ absurd (find_none (is_over (lock c)) (reverse (taken_blocks c)) r.0 e
          (reversed-among (taken_blocks c) r.0 r.1)
          ((branch_eq-decides (just2 r.0.branch) (lock c)).1 (sym r.2)))
    ]

-- more than f correct replicas took it, and all below it
pub ground-among : (w : World) → IsLawfulFamily (correct_family w) → (those : Chronicle → List Branch)
    → ((i : ℕ) → is_correct w i ≡ true → (x : Branch) → Among x (tree (chronicle_of w i))
    → Among x (those (chronicle_of w i)))
    → (x : Branch) → Extends (ground_of w) x → w.sizes.faults < correct_with w those x
ground-among w l those has x e =
    elim (ground-cases (chronicle_of w (healer w))) [
      | inl r ↦ justified-among w l those has (healer w) (healer-highest w l).0 r.0 r.1 x
          (subst (λ (b : Branch). Extends b x) r.3 e)
      | inr z ↦ held-among w l those has [] (λ h. absurd (omega (arith, h))) x
          (subst (λ (b : Branch). Extends b x) z.0 e)
    ]

pub just1-genesis : just1 [] ≡ []
unfolding just1 justify_height beginning
just1-genesis = refl

-- it justifies the lock, and stands in the tree
pub ground-own : (w : World) → IsLawfulFamily (correct_family w)
    → (just1 (ground_of w) ≡ lock_of w (healer w)) × Among (ground_of w) (tree (chronicle_of w (healer w)))
ground-own w l =
    let c : Chronicle = chronicle_of w (healer w) in
    elim (ground-cases c) [
      | inl r ↦ (
        ap just1 r.3 ∙ (just2-is r.0.branch ∙ r.2),
        subst (λ (b : Branch). Among b (tree c)) (sym r.3)
            (tree-just1 w.sizes c (l.lawful (healer w) (healer-highest w l).0) r.0.branch
            (taken-tree c r.0 r.1)),
      )
      | inr z ↦ (
        ap just1 z.0 ∙ (just1-genesis ∙ sym z.1),
        subst (λ (b : Branch). Among b (tree c)) (sym z.0) (tree-genesis c),
      )
    ]

pub grounds-held : GroundsAreHeld
grounds-held sizes is_faulty ring hs last met e =
    let l = chronicles-family sizes is_faulty ring hs last met e in
    let own = ground-own last l in
    record {
      over = own.0;
      own = own.1;
      held = ground-among last l tree (λ i c x m. m);
      kept = λ nobody. ground-among last l window
          (λ i c x m. subst (λ (xs : List Branch). Among x xs) (sym (window-all _ (nobody i c))) m);
    }
