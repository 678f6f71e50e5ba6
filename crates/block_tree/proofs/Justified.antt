-- Whether a block of the tree justifies another, read off the row of entries.
use Rattle.std.proofs.Common.{ℕ, ◌≡◌, ◌≤◌, ◌+◌, ◌-◌, ◌==◌, ◌&&◌, ◌||◌, Bool, true, false, cond}
use Rattle.std.proofs.Common.{List, [], ◌∷◌, length, refl, sym, ap, ◌∙◌, arith, inl, inr, Option, Some, None}
use Rattle.std.proofs.Common.{nat_le, bytes_eq, option_map}
use Rattle.std.specs.List.{list_any}
use Rattle.std.proofs.lemmas.Bool.{and_parts, eq-eqb, eqb-true, le-leb, lt-leb, cases_lt}
use Rattle.std.proofs.lemmas.Bool.{cond-false, le-ltb}
use Rattle.std.specs.Cmp.Derive.{both_true}
use Rattle.std.proofs.lemmas.Option.{same_Some}
use Rattle.std.proofs.lemmas.Slice.Eq.{bytes_eq-Decides}
use Rattle.definitions.specs.Bytes.{Bytes}
use Rattle.definitions.specs.Lists.{Among, beginning}
use Rattle.definitions.specs.Frames.{Core, Certificate}
use Rattle.definitions.specs.Branches.{Branch, branch_eq, just1, justify_height}
use Rattle.definitions.specs.Digests.{digest_of}
use Rattle.definitions.specs.Trees.{Stored, TreeState, blocks, find_in, standing, is_in_reach}
use Rattle.definitions.proofs.Branches.{branch_eq-decides, just1-extends, justify_height-just1}
use Rattle.definitions.proofs.Lists.{any-found, any-from, beginning-whole}
use Rattle.definitions.proofs.Trees.{found-in, tree-below}
use Rattle.definitions.proofs.Windows.{stored-block}
use Rattle.block_tree.specs.declared.forest.Entry.{Entry}
use Rattle.block_tree.specs.declared.index.Index.{Index}
use Rattle.block_tree.specs.Finding.{justifies_at, is_justified_in}
use Rattle.block_tree.specs.Nodes.{ForestState, window, IsEntry, AreEntries, IsForest}
use Rattle.block_tree.proofs.Found.{core-height, core-justify}
use Rattle.block_tree.proofs.Newest.{nothing_stands}
use Rattle.block_tree.proofs.Sound.{IsSound}

-- ---- the row

-- what is asked of an entry
abbrev pub entry_justifies : (floor height : ℕ) → Bytes → Entry → Bool
entry_justifies floor height d e =
    nat_le floor e.node.core.height
    && ((e.node.core.justify_height == height) && bytes_eq e.node.certificate.digest d)

reach-from : (h n : ℕ) → nat_le (h - 2) n ≡ nat_le h (n + 2)
reach-from h n =
    elim (cases_lt n (h - 2)) [
      | inl lt ↦ lt-leb (h - 2) n lt ∙ sym (lt-leb h (n + 2) (omega (arith, lt)))
      | inr le ↦ le-leb (h - 2) n le ∙ sym (le-leb h (n + 2) (omega (arith, le)))
    ]

-- it holds of a stored block that stands
entry-is : (h : ℕ) (d : Bytes) (height : ℕ) (e : Entry) (s : Stored) (older : List Branch)
    → IsEntry h e s older
    → entry_justifies (h - 2) height d e ≡ is_in_reach h s.branch && justifies_at d height s
entry-is h d height e s older is =
    let high : e.node.core.height ≡ length s.branch =
    ap (λ (k : Core). k.height) is.node.core ∙ core-height s.branch in
    let low : e.node.core.justify_height ≡ justify_height s.branch =
    ap (λ (k : Core). k.justify_height) is.node.core ∙ core-justify s.branch in
    let certified : e.node.certificate.digest ≡ digest_of (just1 s.branch) =
    ap (λ (q : Certificate). q.digest) is.node.certificate ∙ is.certified in
    (λ i. nat_le (h - 2) (high i) && ((low i == height) && bytes_eq (certified i) d))
    ∙ ap (λ (t : Bool). t && justifies_at d height s) (reach-from h (length s.branch))

-- one more block
any-step : (t : Bool) (p : Stored → Bool) (s : Stored) (xs : List Stored)
    → list_any p (cond t (s ∷ xs) xs) ≡ (t && p s) || list_any p xs
any-step true p s xs = refl
any-step false p s xs = refl

beginning-older : (n : ℕ) (s : Stored) (older : List Stored) → n ≤ length older
    → beginning n (s ∷ older) ≡ beginning n older
unfolding beginning
beginning-older n s older le = cond-false _ _ _ (le-ltb (length older) n le)

-- of blocks of which the oldest n stand no more, the row has the others
any-standing : (h : ℕ) (d : Bytes) (height n : ℕ) (row : List Entry) (all : List Stored)
    → AreEntries h row all → n + length row ≡ length all → standing h (beginning n all) ≡ []
    → list_any (entry_justifies (h - 2) height d) row ≡ list_any (justifies_at d height) (standing h all)
any-standing h d height n [] all are count gone =
    ap (list_any (justifies_at d height)) (sym gone
    ∙ ap (λ (k : ℕ). standing h (beginning k all)) (omega (arith, count))
    ∙ ap (standing h) (beginning-whole all))
any-standing h d height n (e ∷ row) [] are count gone = absurd are
any-standing h d height n (e ∷ row) (s ∷ older) are count gone =
    let rest : beginning n (s ∷ older) ≡ beginning n older =
    beginning-older n s older (omega (arith, count)) in
    (λ i. entry-is h d height e s (blocks older) are.0 i
    || any-standing h d height n row older are.1 (omega (arith, count)) (sym (ap (standing h) rest) ∙ gone) i)
    ∙ sym (any-step (is_in_reach h s.branch) (justifies_at d height) s (standing h older))

pub forest-justified : (f : ForestState) (first : Bytes) (row : List Entry) (index : Index)
    → IsForest f first row index → (d : Bytes) (height : ℕ)
    → list_any (entry_justifies (f.horizon - 2) height d) row
    ≡ list_any (justifies_at d height) (window f)
forest-justified f first row index w d height =
    any-standing f.horizon d height (f.first - 1) row f.all w.entries
    (omega (arith, w.count, w.some))
    (nothing_stands f.horizon f.all (f.first - 1) (omega (arith, w.count, w.some))
    (λ k above le. w.gone k above (omega (arith, le, w.some))))

-- ---- the tree

none-else : (x : Branch) → length x ≡ 0 → x ≡ []
none-else [] e = refl
none-else (b ∷ parent) e = absurd (omega (arith, e))

module _ (t : TreeState) (so : IsSound t) (d : Bytes) (b : Branch)
    (found : find_in d (blocks t.stored) ≡ Some b) (s : Stored) (m : Among s t.stored) where
  its : (Among b (blocks t.stored)) × (digest_of b ≡ d)
  its = found-in d (blocks t.stored) b found

  stands : Among s.branch (blocks t.stored)
  stands = stored-block t.stored s m

  height-is : length (just1 s.branch) ≡ justify_height s.branch
  height-is = justify_height-just1 s.branch (so.tree.branches s.branch stands)

  -- a block that is justified at its height, under its digest
  same-block : length (just1 s.branch) ≡ length b → digest_of (just1 s.branch) ≡ d → just1 s.branch ≡ b
  same-block high named =
      elim (so.low b its.0) [
        | inl none ↦
            let k = ap (λ (x : Branch). length x) none in
            none-else (just1 s.branch) (omega (arith, high, k)) ∙ sym none
        | inr reach ↦ so.tree.one (just1 s.branch) b
            (tree-below t.horizon (blocks t.stored) so.tree s.branch (just1 s.branch) stands
            (just1-extends s.branch) (omega (arith, high, reach)))
            its.0 (named ∙ sym its.1)
      ]

  to-block : justifies_at d (length b) s ≡ true → branch_eq (just1 s.branch) b ≡ true
  to-block e =
      let r = and_parts _ _ e in
      let high = eqb-true (justify_height s.branch) (length b) r.0 in
      (branch_eq-decides (just1 s.branch) b).1 (same-block (omega (arith, height-is, high))
      ((bytes_eq-Decides (digest_of (just1 s.branch)) d).0 r.1))

  from-block : branch_eq (just1 s.branch) b ≡ true → justifies_at d (length b) s ≡ true
  from-block e =
      let same = (branch_eq-decides (just1 s.branch) b).0 e in
      let long = ap (λ (x : Branch). length x) same in
      both_true (eq-eqb (justify_height s.branch) (length b) (omega (arith, height-is, long)))
      ((bytes_eq-Decides (digest_of (just1 s.branch)) d).1 (ap digest_of same ∙ its.1))

same-answer : (a b : Bool) → (a ≡ true → b ≡ true) → (b ≡ true → a ≡ true) → a ≡ b
same-answer true b f g = sym (f refl)
same-answer false true f g = g refl
same-answer false false f g = refl

pub tree-justified : (t : TreeState) → IsSound t → (d : Bytes) (height : ℕ)
    → Some height ≡ option_map length (find_in d (blocks t.stored))
    → list_any (justifies_at d height) t.stored ≡ is_justified_in d t.stored
tree-justified t so d height e = by (find_in d (blocks t.stored)) refl e
  where
    by : (o : Option Branch) → find_in d (blocks t.stored) ≡ o → Some height ≡ option_map length o
        → list_any (justifies_at d height) t.stored
        ≡ elim o [ Some b ↦ list_any (λ s. branch_eq (just1 s.branch) b) t.stored | None ↦ false ]
    by None f e = absurd (cc)
    by (Some b) f e =
        ap (λ (h : ℕ). list_any (justifies_at d h) t.stored) (same_Some height (length b) e)
        ∙ same-answer (list_any (justifies_at d (length b)) t.stored)
        (list_any (λ (s : Stored). branch_eq (just1 s.branch) b) t.stored)
        (λ k. let r = any-found (justifies_at d (length b)) t.stored k in
        any-from (λ (s : Stored). branch_eq (just1 s.branch) b) t.stored r.0 r.1
        (to-block t so d b f r.0 r.1 r.2))
        (λ k. let r = any-found (λ (s : Stored). branch_eq (just1 s.branch) b) t.stored k in
        any-from (justifies_at d (length b)) t.stored r.0 r.1 (from-block t so d b f r.0 r.1 r.2))
