-- A forest as its horizon rises, and as the oldest block of its row goes.
use Rattle.std.proofs.Common.{ℕ, ◌≡◌, ◌<◌, ◌≤◌, ◌+◌, ◌-◌, Bool, true, false, cond, List, [], ◌∷◌, ◌++◌}
use Rattle.std.proofs.Common.{length}
use Rattle.std.proofs.Common.{refl, sym, ap, subst, ◌∙◌, arith, inl, inr, Option, Some, None, reverse}
use Rattle.std.proofs.Common.{bytes_eq}
use Rattle.std.proofs.Common.{true≢false, get_or}
use Rattle.std.proofs.lemmas.Bool.{cases_lt, le-leb, lt-leb, cond-true, cond-false, eq-eqb, ne_eqb}
use Rattle.std.proofs.lemmas.List.{length-append}
use Rattle.std.proofs.lemmas.Option.{same_Some}
use Rattle.definitions.specs.Bytes.{Bytes}
use Rattle.definitions.specs.Digests.{digest_of}
use Rattle.definitions.specs.Trees.{Stored, blocks, standing, IsTree}
use Rattle.definitions.proofs.Lists.{find_some}
use Rattle.definitions.proofs.Windows.{standing-tree, standing-again, standing-fewer}
use Rattle.block_tree.specs.declared.forest.Entry.{Entry}
use Rattle.block_tree.specs.declared.index.Index.{Index}
use Rattle.block_tree.specs.Indexed.{number_of, other_than}
use Rattle.block_tree.specs.Numbers.{stored_number, nth_stored, from_number, numbered}
use Rattle.block_tree.specs.Nodes.{ForestState, IsForest, IsEntry}
use Rattle.block_tree.proofs.Numbers.{nth-some, number-is}
use Rattle.block_tree.proofs.Numbered.{entries-higher, entries-fewer, reverse-last, entry-at}
use Rattle.block_tree.proofs.Window.{newest-raised}

-- a tree is pruned again
pub tree-raised : (h k : ℕ) (all : List Stored) → h ≤ k → IsTree h (blocks (standing h all))
    → IsTree k (blocks (standing k all))
tree-raised h k all le tr =
    subst (λ (l : List Stored). IsTree k (blocks l)) (standing-again h k all le)
    (standing-tree h k (standing h all) le tr)

pub raised : (f : ForestState) (first : Bytes) (row : List Entry) (index : Index) → IsForest f first row index
    → (horizon : ℕ) → f.horizon ≤ horizon
    → IsForest (record { horizon = horizon; first = f.first; all = f.all }) first row index
raised f first row index w horizon le = record {
  genesis = w.genesis;
  tree = tree-raised f.horizon horizon f.all le w.tree;
  few = (let fewer = standing-fewer f.horizon horizon f.all le in let few = w.few in omega (
    arith,
    few,
    fewer,
  ));
  newest = newest-raised f.horizon horizon f.all le w.tree w.newest;
  some = w.some;
  count = w.count;
  numbers = w.numbers;
  entries = entries-higher f.horizon horizon le row f.all w.entries;
  gone = λ k above low. (let gone = w.gone k above low in omega (arith, gone, le));
  indexed = w.indexed;
}

-- ---- the oldest block of the row goes

past_first : (first : ℕ) (o : Option ℕ) → (o ≡ Some first → ⊥)
    → from_number first o ≡ from_number (first + 1) o
past_first first None n = refl
past_first first (Some k) n =
    elim (cases_lt k first) [
      | inl lt ↦ cond-false _ _ _ (lt-leb first k lt) ∙ sym (cond-false _ _ _ (lt-leb (first + 1) k (omega
          (arith, lt))))
      | inr le ↦ (elim (cases_lt first k) [
        | inl more ↦
            cond-true _ _ _ (le-leb first k le)
            ∙ sym (cond-true _ _ _ (le-leb (first + 1) k (omega (arith, more))))
        | inr same ↦ (let e : k ≡ first = omega (arith, le, same) in absurd (n (ap (λ (m : ℕ). Some m) e)))
      ])
    ]

other_first : (first : ℕ) (o : Option ℕ) → other_than first (from_number first o) ≡ from_number (first + 1) o
other_first first None = refl
other_first first (Some k) =
    elim (cases_lt k first) [
      | inl lt ↦
          ap (other_than first) (cond-false _ _ _ (lt-leb first k lt))
          ∙ sym (cond-false _ _ _ (lt-leb (first + 1) k (omega (arith, lt))))
      | inr le ↦ (elim (cases_lt first k) [
        | inl more ↦
            ap (other_than first) (cond-true _ _ _ (le-leb first k le))
            ∙ (cond-false _ _ _ (ne_eqb k first (λ e. omega (arith, e, more)))
            ∙ sym (cond-true _ _ _ (le-leb (first + 1) k (omega (arith, more)))))
        | inr same ↦
            ap (other_than first) (cond-true _ _ _ (le-leb first k le))
            ∙ (cond-true _ _ _ (eq-eqb k first (omega (arith, le, same)))
            ∙ sym (cond-false _ _ _ (lt-leb (first + 1) k (omega (arith, same)))))
      ])
    ]

index_past : (first : ℕ) (o : Option ℕ) (t : Bool) → (t ≡ false → o ≡ Some first → ⊥)
    → cond t (other_than first (from_number first o)) (from_number first o) ≡ from_number (first + 1) o
index_past first o true other = other_first first o
index_past first o false other = past_first first o (other refl)

module _ (f : ForestState) (first : Bytes) (row : List Entry) (e : Entry) (index new : Index)
    (w : IsForest f first (row ++ e ∷ []) index) where
  oldest_known : f.first ≤ length f.all
  oldest_known =
      let count = w.count in let long = length-append row (e ∷ []) in omega (arith, count, long)

  oldest : (s : Stored) × (nth_stored f.all f.first ≡ Some s) × IsEntry f.horizon e s (blocks f.all)
  oldest =
      let r = nth-some f.all f.first w.some oldest_known in
      let none : f.first - f.first ≡ 0 = omega arith in (
        r.0,
        r.1,
        entry-at f.horizon f.first (row ++ e ∷ []) f.all w.entries w.count f.first e (omega arith)
            oldest_known
            (sym (ap (λ (k : ℕ). get_or (reverse (row ++ e ∷ [])) k e) none
            ∙ ap (λ (l : List Entry). get_or l 0 e) (reverse-last row e))) r.0 r.1,
      )

  -- of the block it is known that it was pruned
  pub dropped : length (numbered (blocks f.all) f.first) < f.horizon - 2
      → ((d : Bytes) → number_of new d
      ≡ cond (bytes_eq e.node.digest d) (other_than f.first (number_of index d)) (number_of index d))
      → IsForest (record { horizon = f.horizon; first = f.first + 1; all = f.all }) first row new
  dropped low entry =
      let count = w.count in
      let long = length-append row (e ∷ []) in
      let some = w.some in
      let s = oldest.0 in
      let own = oldest.2.node in
      record {
        genesis = w.genesis;
        tree = w.tree;
        few = w.few;
        newest = w.newest;
        some = omega arith;
        count = omega (arith, count, long);
        numbers = w.numbers;
        entries = entries-fewer f.horizon row (e ∷ []) f.all w.entries;
        gone = λ k above below.
            elim (cases_lt k f.first) [
              | inl lt ↦ w.gone k above lt
              | inr le ↦
                  (let same : k ≡ f.first = omega (arith, le, below) in
                  let at = ap (λ (j : ℕ). length (numbered (blocks f.all) j)) same in omega (arith, at, low))
            ];
        indexed = λ d.
            entry d
            ∙ (ap (λ (o : Option ℕ). cond (bytes_eq e.node.digest d) (other_than f.first o) o) (w.indexed d)
            ∙ index_past f.first (stored_number d f.all) (bytes_eq e.node.digest d)
            (λ differs number. let r = number-is d f.all f.first number in
            let same : s ≡ r.0 = same_Some s r.0 (sym oldest.1 ∙ r.1) in
            let named = (find_some (λ (x : Stored). bytes_eq (digest_of x.branch) d) f.all r.0 r.2).1 in
            true≢false (sym (ap (λ (x : Bytes). bytes_eq x d)
            (own.named ∙ ap (λ (x : Stored). digest_of x.branch) same) ∙ named) ∙ differs)));
      }
