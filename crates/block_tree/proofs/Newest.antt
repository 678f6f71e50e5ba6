-- The blocks after which others came.
use Rattle.std.proofs.Common.{ℕ, zero, suc, ◌≡◌, ◌<◌, ◌≤◌, ◌-◌, List, [], ◌∷◌, length}
use Rattle.std.proofs.Common.{drop}
use Rattle.std.proofs.Common.{refl, sym, ap, ◌∙◌, arith, inl, inr, Some}
use Rattle.std.proofs.lemmas.Bool.{cases_lt, cond-true, cond-false, lt-ltb, le-ltb}
use Rattle.std.proofs.lemmas.Option.{same_Some}
use Rattle.definitions.specs.Lists.{beginning}
use Rattle.definitions.proofs.Lists.{beginning-whole}
use Rattle.definitions.proofs.Windows.{standing-whole}
use Rattle.definitions.specs.Branches.{Branch}
use Rattle.definitions.specs.Trees.{Stored, blocks, standing}
use Rattle.block_tree.specs.declared.forest.Entry.{Entry}
use Rattle.block_tree.specs.declared.index.Index.{Index}
use Rattle.block_tree.specs.Numbers.{nth_stored, numbered}
use Rattle.block_tree.specs.Nodes.{ForestState, window, IsForest}
use Rattle.block_tree.proofs.Numbers.{nth-some, nth-newest, nth-older}
use Rattle.block_tree.proofs.Numbered.{nth-branch}
use Rattle.block_tree.proofs.Kept.{out-of-reach, in-reach}

-- the oldest blocks up to one, from that one on
pub beginning-step : (all : List Stored) (k : ℕ) (s : Stored) → 0 < k → k ≤ length all → nth_stored all k ≡
    Some s
    → beginning k all ≡ s ∷ beginning (k - 1) all
unfolding beginning
beginning-step [] k s above known e = absurd (omega (arith, above, known))
beginning-step (x ∷ older) k s above known e =
    elim (cases_lt (length older) k) [
      | inl lt ↦
          (let top : k ≡ suc (length older) = omega (arith, lt, known) in
          let same : x ≡ s = same_Some x s (sym (nth-newest x older k top) ∙ e) in
          let below : k - 1 ≡ length older = omega (arith, top) in
          let rest : beginning (k - 1) (x ∷ older) ≡ older =
          ap (λ (n : ℕ). beginning n (x ∷ older)) below
          ∙ (cond-false _ _ _ (le-ltb (length older) (length older) (omega arith)) ∙ beginning-whole older) in
          cond-true _ _ _ (lt-ltb (length older) k lt)
          ∙ (ap (λ (y : Stored). y ∷ older) same ∙ ap (λ (l : List Stored). s ∷ l) (sym rest)))
      | inr le ↦
          (let rest : beginning (k - 1) (x ∷ older) ≡ beginning (k - 1) older =
          cond-false _ _ _ (le-ltb (length older) (k - 1) (omega (arith, le))) in
          cond-false _ _ _ (le-ltb (length older) k le)
          ∙ (beginning-step older k s above le (sym (nth-older x older k le) ∙ e)
          ∙ ap (λ (l : List Stored). s ∷ l) (sym rest)))
    ]

none_first : (all : List Stored) → beginning 0 all ≡ []
unfolding beginning
none_first [] = refl
none_first (x ∷ older) = cond-false _ _ _ (le-ltb (length older) 0 (omega arith)) ∙ none_first older

-- what stands of them
pub pruned-step : (h : ℕ) (all : List Stored) (k : ℕ) → 0 < k → k ≤ length all
    → length (numbered (blocks all) k) < h - 2
    → standing h (beginning k all) ≡ standing h (beginning (k - 1) all)
pruned-step h all k above known low =
    let r = nth-some all k above known in
    let same = ap (λ (b : Branch). length b) (nth-branch all k r.0 r.1) in
    ap (standing h) (beginning-step all k r.0 above known r.1)
    ∙ cond-false _ _ _ (out-of-reach h (length r.0.branch) (omega (arith, low, same)))

pub standing-step : (h : ℕ) (all : List Stored) (k : ℕ) (s : Stored) → 0 < k → k ≤ length all
    → nth_stored all k ≡ Some s → h - 2 ≤ length (numbered (blocks all) k)
    → standing h (beginning k all) ≡ s ∷ standing h (beginning (k - 1) all)
standing-step h all k s above known e high =
    let same = ap (λ (b : Branch). length b) (nth-branch all k s e) in
    ap (standing h) (beginning-step all k s above known e)
    ∙ cond-true _ _ _ (in-reach h (length s.branch) (omega (arith, high, same)))

-- nothing stands of those that were pruned
pub nothing_stands : (h : ℕ) (all : List Stored) (n : ℕ) → n ≤ length all
    → ((k : ℕ) → 0 < k → k ≤ n → length (numbered (blocks all) k) < h - 2) → standing h (beginning n all) ≡ []
nothing_stands h all zero known gone = ap (standing h) (none_first all)
nothing_stands h all (suc n) known gone =
    pruned-step h all (suc n) (omega arith) known (gone (suc n) (omega arith) (omega arith))
    ∙ (ap (λ (k : ℕ). standing h (beginning k all)) (omega arith)
    ∙ nothing_stands h all n (omega (arith, known)) (λ k above low. gone k above (omega (arith, low))))

-- ---- where nothing was pruned

pub nth-drop : (all : List Stored) (n : ℕ) (s : Stored) (older : List Stored) → drop n all ≡ s ∷ older
    → nth_stored all (length all - n) ≡ Some s
nth-drop [] zero s older e = absurd (cc)
nth-drop [] (suc n) s older e = absurd (cc)
nth-drop (x ∷ xs) zero s older e =
    let same : x ≡ s = cc in
    nth-newest x xs (suc (length xs) - 0) (omega arith) ∙ ap (λ (y : Stored). Some y) same
nth-drop (x ∷ xs) (suc n) s older e =
    let place : suc (length xs) - suc n ≡ length xs - n = omega arith in
    ap (nth_stored (x ∷ xs)) place
    ∙ (nth-older x xs (length xs - n) (omega arith) ∙ nth-drop xs n s older e)

pub whole-window : (f : ForestState) → f.horizon - 2 ≡ 0 → window f ≡ f.all
whole-window f low = standing-whole f.horizon f.all (omega (arith, low))

-- ---- where something was

-- Up to the block of a number the same is left as was looked for in all.
pub record Looking (f : ForestState) (newer at rest : ℕ) : Type 0 where
  pub kept : f.first ≤ at
  pub known : at ≤ length f.all
  pub left : drop rest (standing f.horizon (beginning at f.all)) ≡ drop newer (window f)
  pub some : rest < length (standing f.horizon (beginning at f.all))

module _ (f : ForestState) (first : _) (row : List Entry) (index : Index) (w : IsForest f first row index)
  where
    -- a block is in the row as long as one is looked for
    there : (at rest : ℕ) → at ≤ length f.all → rest < length (standing f.horizon (beginning at f.all))
        → f.first ≤ at
    there at rest known some =
        elim (cases_lt at f.first) [
          | inl lt ↦
              (let none = ap (λ (l : List Stored). length l) (nothing_stands f.horizon f.all at known
              (λ k above low. w.gone k above (omega (arith, low, lt)))) in
              absurd (omega (arith, none, some)))
          | inr le ↦ le
        ]

    pub look-begin : (newer at : ℕ) → newer < length (window f) → at ≡ length f.all → Looking f newer at newer
    look-begin newer at some e =
        let whole : beginning at f.all ≡ f.all =
        ap (λ (k : ℕ). beginning k f.all) e ∙ beginning-whole f.all in
        let long = ap (λ (l : List Stored). length (standing f.horizon l)) whole in
        let more : newer < length (standing f.horizon (beginning at f.all)) = omega (arith, some, long) in
        record {
          kept = there at newer (omega (arith, e)) more;
          known = omega (arith, e);
          left = ap (λ (l : List Stored). drop newer (standing f.horizon l)) whole;
          some = more;
        }

    module _ (newer at rest : ℕ) (l : Looking f newer at rest) where
      above : 0 < at
      above = let kept = l.kept in let some = w.some in omega (arith, kept, some)

      pub look-past : length (numbered (blocks f.all) at) < f.horizon - 2 → Looking f newer (at - 1) rest
      look-past low =
          let step = pruned-step f.horizon f.all at above l.known low in
          let long = ap (λ (l : List Stored). length l) step in
          let some = l.some in
          let known = l.known in
          let more : rest < length (standing f.horizon (beginning (at - 1) f.all)) = omega (arith, some, long)
          in
          record {
            kept = there (at - 1) rest (omega (arith, known)) more;
            known = omega (arith, known);
            left = ap (drop rest) (sym step) ∙ l.left;
            some = more;
          }

      pub look-on : f.horizon - 2 ≤ length (numbered (blocks f.all) at) → 0 < rest
          → Looking f newer (at - 1) (rest - 1)
      look-on high more =
          let r = nth-some f.all at above l.known in
          let step = standing-step f.horizon f.all at r.0 above l.known r.1 high in
          let long = ap (λ (l : List Stored). length l) step in
          let some = l.some in
          let known = l.known in
          let next : rest ≡ suc (rest - 1) = omega (arith, more) in
          let left : rest - 1 < length (standing f.horizon (beginning (at - 1) f.all)) =
          omega (arith, some, long, more) in
          record {
            kept = there (at - 1) (rest - 1) (omega (arith, known)) left;
            known = omega (arith, known);
            left =
                ap (λ (k : ℕ). drop k (r.0 ∷ standing f.horizon (beginning (at - 1) f.all))) (sym next)
                ∙ (ap (drop rest) (sym step) ∙ l.left);
            some = left;
          }

      pub look-found : f.horizon - 2 ≤ length (numbered (blocks f.all) at) → rest ≡ 0 → (s : Stored)
          → (older : List Stored) → drop newer (window f) ≡ s ∷ older → nth_stored f.all at ≡ Some s
      look-found high none s older e =
          let r = nth-some f.all at above l.known in
          let step = standing-step f.horizon f.all at r.0 above l.known r.1 high in
          let all : r.0 ∷ standing f.horizon (beginning (at - 1) f.all) ≡ s ∷ older =
          sym step ∙ (ap (λ (k : ℕ). drop k (standing f.horizon (beginning at f.all))) (sym none) ∙ (l.left ∙
          e)) in
          let same : r.0 ≡ s = cc in
          r.1 ∙ ap (λ (x : Stored). Some x) same
