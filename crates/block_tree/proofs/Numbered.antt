-- Blocks by their numbers, and the links from one to another.
use Rattle.std.proofs.Common.{ℕ, suc, ◌+◌, ◌-◌, ◌^◌, ◌≡◌, ◌<◌, ◌≤◌, List, [], ◌∷◌}
use Rattle.std.proofs.Common.{length, drop, get_or, reverse, refl, sym, ap, subst, ◌∙◌, arith, inl, inr}
use Rattle.std.proofs.Common.{Option, Some, None, ◌⊎◌, ◌++◌}
use Rattle.std.specs.Prelude.{MatchOption, slice_get}
use Rattle.std.proofs.lemmas.Bool.{eq-eqb, ne_eqb, cond-true, cond-false, cases_lt, le-ltb, lt-ltb}
use Rattle.std.proofs.lemmas.List.{length-drop, drop-drop}
use Rattle.definitions.specs.Lists.{beginning, Among}
use Rattle.definitions.specs.Branches.{Branch}
use Rattle.definitions.specs.Trees.{Stored, blocks}
use Rattle.block_tree.specs.declared.forest.Entry.{Entry}
use Rattle.block_tree.specs.Nodes.{IsEntry, AreEntries}
use Rattle.block_tree.specs.Numbers.{nth_stored, numbered, IsDown, AreLinks}
use Rattle.block_tree.proofs.Numbers.{blocks-count, nth-newest, nth-older, nth-within}
use Rattle.std.proofs.Math.Seq.{get_or-append_seam}
use Rattle.std.proofs.lemmas.List.{get_or_append_left, length-reverse, reverse-append}
use Rattle.std.proofs.lemmas.Option.{same_Some}

pub reverse-last : {A : Type 0} (xs : List A) (x : A) → reverse (xs ++ x ∷ []) ≡ x ∷ reverse xs
reverse-last xs x = reverse-append xs (x ∷ [])

pub reverse-first : {A : Type 0} (x : A) (xs : List A) → reverse (x ∷ xs) ≡ reverse xs ++ x ∷ []
reverse-first x xs = reverse-append (x ∷ []) xs

pub reverse-twice : {A : Type 0} (xs : List A) → reverse (reverse xs) ≡ xs
reverse-twice [] = refl
reverse-twice {A} (x ∷ xs) =
    ap reverse (reverse-first x xs)
    ∙ (reverse-last (reverse xs) x ∙ ap (λ (l : List A). x ∷ l) (reverse-twice xs))

-- the newest block has the last number
pub numbered-newest : (b : Branch) (older : List Branch) (k : ℕ) → k ≡ length older
    → numbered (b ∷ older) k ≡ b
unfolding numbered
numbered-newest b older k e = cond-true _ _ _ (eq-eqb k (length older) e)

-- and the others keep theirs
pub numbered-older : (b : Branch) (older : List Branch) (k : ℕ) → k < length older
    → numbered (b ∷ older) k ≡ numbered older k
unfolding numbered
numbered-older b older k lt = cond-false _ _ _ (ne_eqb k (length older) (λ e. omega (arith, e, lt)))

pub numbered-genesis : (stored : List Stored) → numbered (blocks stored) 0 ≡ []
numbered-genesis [] = numbered-newest [] [] 0 refl
numbered-genesis (s ∷ older) = numbered-older s.branch (blocks older) 0 (some older) ∙ numbered-genesis older
  where
    some : (stored : List Stored) → 0 < length (blocks stored)
    some [] = omega arith
    some (s ∷ older) = omega arith

pub numbered-among : (tree : List Branch) (k : ℕ) → k < length tree → Among (numbered tree k) tree
numbered-among [] k lt = absurd (omega arith)
numbered-among (b ∷ older) k lt =
    elim (cases_lt k (length older)) [
      | inl p ↦ inr (subst (λ (x : Branch). Among x older) (sym (numbered-older b older k p))
          (numbered-among older k p))
      | inr q ↦ inl (numbered-newest b older k (omega (arith, q, lt)))
    ]

pub nth-branch : (all : List Stored) (k : ℕ) (s : Stored) → nth_stored all k ≡ Some s
    → numbered (blocks all) k ≡ s.branch
unfolding nth_stored
nth-branch [] k s e = absurd (cc)
nth-branch (x ∷ older) k s e =
    let count = blocks-count older in
    let within = nth-within (x ∷ older) k s e in
    let high = within.1 in
    elim (cases_lt (length older) k) [
      | inl lt ↦
          (let top : k ≡ suc (length older) = omega (arith, lt, high) in
          numbered-newest x.branch (blocks older) k (omega (arith, top, count))
          ∙ ap (λ (y : Stored). y.branch) (same_Some x s (sym (nth-newest x older k top) ∙ e)))
      | inr le ↦
          numbered-older x.branch (blocks older) k (omega (arith, le, count))
          ∙ nth-branch older k s (sym (nth-older x older k le) ∙ e)
    ]

-- ---- links

pub down-older : (tree : List Branch) (x b : Branch) (distance m : ℕ) → IsDown tree distance b m
    → IsDown (x ∷ tree) distance b m
down-older tree x b distance m h = record {
  known = let k = h.known in omega (arith, k);
  high = h.high;
  is = numbered-older x tree m h.known ∙ h.is;
}

links-older : (h : ℕ) (tree : List Branch) (x b : Branch) (links : List ℕ) → AreLinks h tree b links
    → AreLinks h (x ∷ tree) b links
links-older h tree x b links are i = go (slice_get links i) (are i)
  where
    go : (o : Option ℕ) → MatchOption o (length b < 2 ^ i + (h - 2))
        (λ m. 2 ^ i + (h - 2) ≤ length b → IsDown tree (2 ^ i) b m)
        → MatchOption o (length b < 2 ^ i + (h - 2))
        (λ m. 2 ^ i + (h - 2) ≤ length b → IsDown (x ∷ tree) (2 ^ i) b m)
    go None p = p
    go (Some m) p = λ reach. down-older tree x b (2 ^ i) m (p reach)

links-higher : (h k : ℕ) → h ≤ k → (tree : List Branch) (b : Branch) (links : List ℕ)
    → AreLinks h tree b links → AreLinks k tree b links
links-higher h k le tree b links are i = go (slice_get links i) (are i)
  where
    go : (o : Option ℕ) → MatchOption o (length b < 2 ^ i + (h - 2))
        (λ m. 2 ^ i + (h - 2) ≤ length b → IsDown tree (2 ^ i) b m)
        → MatchOption o (length b < 2 ^ i + (k - 2))
        (λ m. 2 ^ i + (k - 2) ≤ length b → IsDown tree (2 ^ i) b m)
    go None p = omega (arith, p, le)
    go (Some m) p = λ reach. p (omega (arith, reach, le))

-- ---- entries

entry_older : (h : ℕ) (e : Entry) (s : Stored) (older : List Branch) (x : Branch) → IsEntry h e s older
    → IsEntry h e s (x ∷ older)
entry_older h e s older x is = record {
  node = is.node;
  certified = is.certified;
  links = links-older h older x s.branch e.links is.links;
}

-- entries stay right where the horizon rises,
pub entries-higher : (h k : ℕ) → h ≤ k → (row : List Entry) (all : List Stored) → AreEntries h row all
    → AreEntries k row all
entries-higher h k le [] all are = tt
entries-higher h k le (e ∷ row) [] are = are
entries-higher h k le (e ∷ row) (s ∷ older) are = (
  record {
    node = are.0.node;
    certified = are.0.certified;
    links = links-higher h k le (blocks older) s.branch e.links are.0.links;
  },
  entries-higher h k le row older are.1,
)

-- and where the oldest ones go
pub entries-fewer : (h : ℕ) (row gone : List Entry) (all : List Stored) → AreEntries h (row ++ gone) all
    → AreEntries h row all
entries-fewer h [] gone all are = tt
entries-fewer h (e ∷ row) gone [] are = are
entries-fewer h (e ∷ row) gone (s ∷ older) are = (are.0, entries-fewer h row gone older are.1)

-- the entry at a place is an older one, or the newest
entry_place : (e : Entry) (row : List Entry) (i : ℕ) (x : Entry) → i < suc (length row)
    → x ≡ get_or (reverse (e ∷ row)) i x
    → ((i < length row) × (x ≡ get_or (reverse row) i x)) ⊎ ((i ≡ length row) × (x ≡ e))
entry_place e row i x here is =
    let count = length-reverse row in
    let all : get_or (reverse (e ∷ row)) i x ≡ get_or (reverse row ++ e ∷ []) i x =
    ap (λ (l : List Entry). get_or l i x) (reverse-first e row) in
    elim (cases_lt i (length row)) [
      | inl lt ↦
          inl (lt, is ∙ all ∙ get_or_append_left (reverse row) (e ∷ []) x i (omega (arith, lt, count)))
      | inr le ↦
          let end : i ≡ length row = omega (arith, le, here) in
          let last : i ≡ length (reverse row) = omega (arith, end, count) in
          inr (
            end,
            is ∙ all ∙ ap (λ (k : ℕ). get_or (reverse row ++ e ∷ []) k x) last
                ∙ get_or-append_seam (reverse row) e [] x,
          )
    ]

-- the entry of a number
pub entry-at : (h first : ℕ) (row : List Entry) (all : List Stored) → AreEntries h row all
    → first + length row ≡ length all + 1 → (k : ℕ) (x : Entry) → first ≤ k → k ≤ length all
    → x ≡ get_or (reverse row) (k - first) x → (s : Stored) → nth_stored all k ≡ Some s
    → IsEntry h x s (blocks all)
entry-at h first [] all are count k x kept known is s e = absurd (omega (arith, count, kept, known))
entry-at h first (e ∷ row) [] are count k x kept known is s at = absurd are
entry-at h first (e ∷ row) (z ∷ older) are count k x kept known is s at =
    elim (entry_place e row (k - first) x (omega (arith, count, kept, known)) is) [
      | inl l ↦
          (let lt = l.0 in
          let low : k ≤ length older = omega (arith, lt, count, kept) in
          entry_older h x s (blocks older) z.branch
          (entry-at h first row older are.1 (omega (arith, count)) k x kept low l.1 s
          (sym (nth-older z older k low) ∙ at)))
      | inr r ↦
          (let end = r.0 in
          let same : z ≡ s =
          same_Some z s (sym (nth-newest z older k (omega (arith, end, count, kept))) ∙ at) in
          subst (λ (y : Entry). IsEntry h y s (z.branch ∷ blocks older)) (sym r.1)
          (subst (λ (y : Stored). IsEntry h e y (z.branch ∷ blocks older)) same
          (entry_older h e z (blocks older) z.branch are.0)))
    ]

-- ---- down a branch

pub beginning-drop : (h : ℕ) (b : Branch) → h ≤ length b → beginning h b ≡ drop (length b - h) b
unfolding beginning
beginning-drop h [] le = let none : 0 - h ≡ 0 = omega arith in ap (λ (k : ℕ). drop k []) (sym none)
beginning-drop h (x ∷ older) le =
    elim (cases_lt (length older) h) [
      | inl lt ↦
          let none : suc (length older) - h ≡ 0 = omega (arith, lt, le) in
          cond-true _ _ _ (lt-ltb (length older) h lt) ∙ ap (λ (k : ℕ). drop k (x ∷ older)) (sym none)
      | inr ge ↦
          let more : suc (length older) - h ≡ suc (length older - h) = omega (arith, ge) in
          cond-false _ _ _ (le-ltb (length older) h ge) ∙ beginning-drop h older ge
          ∙ ap (λ (k : ℕ). drop k (x ∷ older)) (sym more)
    ]

-- one way down after another
pub down-more : (tree : List Branch) (a c : ℕ) (b : Branch) (m k : ℕ) → IsDown tree a b m
    → IsDown tree c (numbered tree m) k → IsDown tree (a + c) b k
down-more tree a c b m k x y =
    let low = length-drop a b in
    let here : length (numbered tree m) ≡ length b - a = ap (λ (z : Branch). length z) x.is ∙ low in
    let high = y.high in
    let top = x.high in
    record {
      known = y.known;
      high = omega (arith, here, high, top);
      is = y.is ∙ ap (λ (z : Branch). drop c z) x.is ∙ drop-drop c a b;
    }
