-- Three more blocks decide.
use Rattle.std.proofs.Common.{ℕ, suc, ◌≡◌, true, List, [], ◌∷◌, length, refl, sym}
use Rattle.std.proofs.Common.{ap, subst, ◌∙◌, arith, inl, inr}
use Rattle.std.proofs.lemmas.Bool.{and_from, eq-eqb, cond-true, cond_both}
use Rattle.definitions.specs.Lists.{Among, beginning}
use Rattle.definitions.specs.Branches.{Block, Branch, justify_height, just1, just2, just3, Extends}
use Rattle.definitions.specs.Chronicles.{Admitted, taken_blocks, decided, decided_by, decides, executed}
use Rattle.definitions.specs.Agreement.{IsLawfulFamily}
use Rattle.definitions.specs.Worlds.{World, is_correct}
use Rattle.definitions.proofs.Lists.{Among-before, IsBeginning-beginning}
use Rattle.definitions.proofs.Branches.{highest-above, just2-is, just3-is, extends-between}
use Rattle.definitions.proofs.Chronicles.{executed-decided}
use Rattle.agreement.proofs.Agreement.{one-extends}
use Rattle.linear_law.specs.Law.{correct_family}
use Rattle.linear_law.proofs.WholeRuns.{chronicles-family}
use Rattle.recovery.specs.Correct.{chronicle_of}
use Rattle.recovery.specs.Rounds.{IsNext, ThreeMoreDecide}

-- a block that justifies what it extends at a height justifies that
pub justifies-below : (b : Block) (parent m : Branch) → Extends parent m → b.justify ≡ length m
    → just1 (b ∷ parent) ≡ m
unfolding just1 justify_height
justifies-below b parent m e h =
    ap (λ (n : ℕ). beginning n (b ∷ parent)) h
    ∙ IsBeginning-beginning m (b ∷ parent) (b ∷ e.0, ap (λ (l : Branch). b ∷ l) e.1)

-- the next block justifies the one that it stands on
next-justifies : (x y : Branch) → IsNext x y → just1 y ≡ x
next-justifies x y n = ap just1 n.1 ∙ justifies-below n.0 x x ([], refl) n.2

next-higher : (x y : Branch) → IsNext x y → length y ≡ suc (length x)
next-higher x y n = ap (λ (z : Branch). length z) n.1

-- what was decided by a block of a list
decided-from : (xs : List Admitted) (a : Admitted) → Among a xs → decides a.branch ≡ true
    → Among (just3 a.branch) (decided_by xs)
unfolding decided_by
decided-from [] a m d = absurd m
decided-from (x ∷ xs) a (inl e) d =
    subst (λ (l : List Branch). Among (just3 a.branch) l)
    (sym (cond-true (decides x.branch) (just3 x.branch ∷ decided_by xs) (decided_by xs)
    (ap (λ (y : Admitted). decides y.branch) (sym e) ∙ d)))
    (inl (ap (λ (y : Admitted). just3 y.branch) e))
decided-from (x ∷ xs) a (inr m) d =
    cond_both (decides x.branch) (just3 x.branch ∷ decided_by xs) (decided_by xs)
    (λ (l : List Branch). Among (just3 a.branch) l) (λ t. inr (decided-from xs a m d)) (λ t. decided-from xs a m d)

-- the third block decides the first
third-decides : (x y z : Branch) (a : Admitted) → IsNext x y → IsNext y z → IsNext z a.branch
    → (decides a.branch ≡ true) × (just3 a.branch ≡ x)
unfolding decides
third-decides x y z a n1 n2 n3 =
    let j1 = next-justifies z a.branch n3 in
    let j2 : just2 a.branch ≡ y = sym (just2-is a.branch) ∙ (ap just1 j1 ∙ next-justifies y z n2) in
    let j3 : just3 a.branch ≡ x = sym (just3-is a.branch) ∙ (ap just1 j2 ∙ next-justifies x y n1) in
    let l1 = ap (λ (b : Branch). length b) j1 in
    let l2 = ap (λ (b : Branch). length b) j2 in
    let l3 = ap (λ (b : Branch). length b) j3 in
    let h1 = next-higher x y n1 in
    let h2 = next-higher y z n2 in (
      and_from _ _ (eq-eqb (length (just2 a.branch)) (suc (length (just3 a.branch))) (omega (arith, l2, l3, h1)))
          (eq-eqb (length (just1 a.branch)) (suc (length (just2 a.branch))) (omega (arith, l1, l2, h2))),
      j3,
    )

-- so the last executed branch goes through it
pub third-executes : (w : World) → IsLawfulFamily (correct_family w) → (r : ℕ) → is_correct w r ≡ true
    → (x y z : Branch) (a : Admitted) → IsNext x y → IsNext y z → IsNext z a.branch
    → Among a (taken_blocks (chronicle_of w r)) → Extends (executed (chronicle_of w r)) x
unfolding decided executed
third-executes w l r c x y z a n1 n2 n3 m =
    let d = third-decides x y z a n1 n2 n3 in
    let there : Among x (decided (chronicle_of w r)) =
    subst (λ (b : Branch). Among b (decided (chronicle_of w r))) d.1
    (Among-before (just3 a.branch) (decided_by (taken_blocks (chronicle_of w r))) ([] ∷ [])
    (decided-from (taken_blocks (chronicle_of w r)) a m d.0)) in
    let top = executed-decided (chronicle_of w r) in
    let high = highest-above (decided (chronicle_of w r)) x there in
    elim (one-extends (correct_family w) (executed (chronicle_of w r)) x l (r, c, top) (r, c, there)) [
      | inl e ↦ e
      | inr e ↦ extends-between x (executed (chronicle_of w r)) x e ([], refl) high
    ]

pub three-decide : ThreeMoreDecide
three-decide sizes is_faulty ring hs last met e = λ r c x y z a n1 n2 n3 m.
    third-executes last (chronicles-family sizes is_faulty ring hs last met e) r c x y z a n1 n2 n3 m
