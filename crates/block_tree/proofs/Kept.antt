-- What a forest keeps.
use Rattle.ids.specs.declared.limits.TheConstants.{MOST_BLOCKS}
use Rattle.std.proofs.Common.{ℕ, ◌≡◌, ◌<◌, ◌≤◌, ◌+◌, ◌-◌, Bool, true, false, cond, List, [], ◌∷◌, length}
use Rattle.std.proofs.Common.{refl}
use Rattle.std.proofs.Common.{sym, ap, subst, ◌∙◌, arith, inl, inr, Option, Some, None, nat_le}
use Rattle.std.proofs.lemmas.Bool.{cases_lt, le-leb, lt-leb, leb-true, cond-true, cond-false}
use Rattle.std.proofs.lemmas.Option.{same_Some}
use Rattle.definitions.specs.Lists.{Among}
use Rattle.definitions.specs.Bytes.{Bytes}
use Rattle.definitions.specs.Branches.{Branch}
use Rattle.definitions.specs.Digests.{digest, digest_of, core_of}
use Rattle.definitions.specs.Frames.{genesis_core}
use Rattle.definitions.specs.Trees.{Stored, blocks, find_in}
use Rattle.definitions.proofs.Windows.{standing-stays, reach-few}
use Rattle.block_tree.specs.declared.forest.Entry.{Entry}
use Rattle.block_tree.specs.declared.index.Index.{Index}
use Rattle.block_tree.specs.Indexed.{number_of}
use Rattle.block_tree.specs.Finding.{stored_in}
use Rattle.block_tree.specs.Numbers.{stored_number, nth_stored, from_number, if_standing, numbered, AreLinks}
use Rattle.block_tree.specs.Nodes.{ForestState, window, IsHere, IsStoredAt, IsBlockAt, IsEntryAt, IsForest}
use Rattle.block_tree.proofs.Found.{block_from, blocks-found}
use Rattle.block_tree.proofs.Numbers.{blocks-count, nth-within, nth-some, number-is, number-none}
use Rattle.block_tree.proofs.Numbered.{nth-branch, numbered-among, numbered-genesis}

pub genesis-digest : digest_of [] ≡ digest genesis_core
unfolding digest_of
genesis-digest = refl

pub out-of-reach : (h n : ℕ) → n < h - 2 → nat_le h (n + 2) ≡ false
out-of-reach h n lt = lt-leb h (n + 2) (omega (arith, lt))

pub in-reach : (h n : ℕ) → h - 2 ≤ n → nat_le h (n + 2) ≡ true
in-reach h n le = le-leb h (n + 2) (omega (arith, le))

from_some : (first k n : ℕ) (t : Bool) → nat_le first n ≡ t → cond t (Some n) None ≡ Some k
    → (n ≡ k) × (first ≤ k)
from_some first k n true i e =
    let same = same_Some n k e in let low = leb-true first n i in (same, omega (arith, same, low))
from_some first k n false i e = absurd (cc)

from_none : (first n : ℕ) (t : Bool) → nat_le first n ≡ t → cond t (Some n) None ≡ None → n < first
from_none first n true i e = absurd (cc)
from_none first n false i e = elim (cases_lt n first) [
  | inl lt ↦ lt
  | inr le ↦ absurd (let one : true ≡ false = sym (le-leb first n le) ∙ i in cc)
]

-- what an entry says of the block of its number
pub record IsOf (f : ForestState) (e : Entry) (b : Branch) : Type 0 where
  pub named : e.node.digest ≡ digest_of b
  pub core : e.node.core ≡ core_of b
  pub links : AreLinks f.horizon (blocks f.all) b e.links

pub entry-of : (f : ForestState) (e : Entry) (k : ℕ) → IsEntryAt f e k → IsHere f k → (k ≡ 0 → ⊥)
    → IsOf f e (numbered (blocks f.all) k)
entry-of f e k at here some =
    let count = blocks-count f.all in
    let known = here.known in
    let above : 0 < k = elim (cases_lt 0 k) [ inl lt ↦ lt | inr le ↦ absurd (some (omega (arith, le))) ] in
    let r = nth-some f.all k above (omega (arith, known, count)) in
    let is = at r.0 r.1 in
    let same = nth-branch f.all k r.0 r.1 in
    record {
      named = is.node.named ∙ ap digest_of (sym same);
      core = is.node.core ∙ ap core_of (sym same);
      links = subst (λ (b : Branch). AreLinks f.horizon (blocks f.all) b e.links) (sym same) is.links;
    }

pub here-known : (f : ForestState) (k : ℕ) → IsHere f k → (k ≡ 0 → ⊥) → (f.first ≤ k) × (k ≤ length f.all)
here-known f k here some =
    let count = blocks-count f.all in
    let known = here.known in (
      elim here.kept [ inl e ↦ absurd (some e) | inr le ↦ le ],
      omega (arith, known, count),
    )

-- what is in the index
pub record IsIndexed (f : ForestState) (d : Bytes) (k : ℕ) : Type 0 where
  pub number : stored_number d f.all ≡ Some k
  pub stored : Stored
  pub at : nth_stored f.all k ≡ Some stored
  pub newest : stored_in d f.all ≡ Some stored
  pub kept : f.first ≤ k
  pub known : k ≤ length f.all

module _ (f : ForestState) (first : Bytes) (row : List Entry) (index : Index)
    (w : IsForest f first row index) where
  -- the number of a digest
  pub index-some : (d : Bytes) (k : ℕ) → number_of index d ≡ Some k → IsIndexed f d k
  index-some d k e = go (stored_number d f.all) refl (sym (w.indexed d) ∙ e)
    where
      go : (o : Option ℕ) → stored_number d f.all ≡ o → from_number f.first o ≡ Some k → IsIndexed f d k
      go None i j = absurd (cc)
      go (Some n) i j =
          let r = from_some f.first k n (nat_le f.first n) refl j in
          let number = i ∙ ap (λ (m : ℕ). Some m) r.0 in
          let at = number-is d f.all k number in
          record {
            number = number;
            stored = at.0;
            at = at.1;
            newest = at.2;
            kept = r.1;
            known = (nth-within f.all k at.0 at.1).1;
          }

  gone_at : (d : Bytes) (n : ℕ) → stored_number d f.all ≡ Some n → n < f.first
      → if_standing f.horizon (stored_in d f.all) ≡ None
  gone_at d n e lt =
      let r = number-is d f.all n e in
      let within = nth-within f.all n r.0 r.1 in
      let low = within.0 in
      let gone = w.gone n low lt in
      let same = ap (λ (b : Branch). length b) (nth-branch f.all n r.0 r.1) in
      ap (if_standing f.horizon) r.2
      ∙ cond-false _ _ _ (out-of-reach f.horizon (length r.0.branch) (omega (arith, gone, same)))

  -- a digest that isn't there
  pub index-none : (d : Bytes) → number_of index d ≡ None → stored_in d (window f) ≡ None
  index-none d e = w.newest d ∙ go (stored_number d f.all) refl (sym (w.indexed d) ∙ e)
    where
      go : (o : Option ℕ) → stored_number d f.all ≡ o → from_number f.first o ≡ None
          → if_standing f.horizon (stored_in d f.all) ≡ None
      go None i j = ap (if_standing f.horizon) (number-none d f.all i)
      go (Some n) i j = gone_at d n i (from_none f.first n (nat_le f.first n) refl j)

  -- the block of an entry that was pruned
  pub index-pruned : (d : Bytes) (k : ℕ) (at : IsIndexed f d k) → length at.stored.branch < f.horizon - 2
      → stored_in d (window f) ≡ None
  index-pruned d k at low =
      w.newest d
      ∙ (ap (if_standing f.horizon) at.newest
      ∙ cond-false _ _ _ (out-of-reach f.horizon (length at.stored.branch) low))

  -- and of one that stands
  pub index-standing : (d : Bytes) (k : ℕ) (at : IsIndexed f d k) → f.horizon - 2 ≤ length at.stored.branch
      → IsStoredAt f d k
  index-standing d k at high = record {
    stored = at.stored;
    found = w.newest d
        ∙ (ap (if_standing f.horizon) at.newest
        ∙ cond-true _ _ _ (in-reach f.horizon (length at.stored.branch) high));
    at = at.at;
    kept = at.kept;
  }

  -- ---- blocks by their numbers

  -- a block in reach has not left the row
  pub reach-here : (k : ℕ) → k < length (blocks f.all) → f.horizon - 2 ≤ length (numbered (blocks f.all) k)
      → IsHere f k
  reach-here k known high = record {
    known = known;
    kept = elim (cases_lt 0 k) [
      | inl some ↦ (elim (cases_lt k f.first) [
        | inl lt ↦ (let gone = w.gone k some lt in absurd (omega (arith, gone, high)))
        | inr le ↦ inr le
      ])
      | inr none ↦ inl (omega (arith, none))
    ];
  }

  -- it stands
  reach_among : (k : ℕ) → k < length (blocks f.all) → f.horizon - 2 ≤ length (numbered (blocks f.all) k)
      → Among (numbered (blocks f.all) k) (blocks (window f))
  reach_among k known high =
      standing-stays f.horizon f.all (numbered (blocks f.all) k) (numbered-among (blocks f.all) k known)
      (omega (arith, high))

  -- and is not far above the lowest one
  pub reach-short : (k : ℕ) → k < length (blocks f.all) → f.horizon - 2 ≤ length (numbered (blocks f.all) k)
      → length (numbered (blocks f.all) k) - (f.horizon - 2) < MOST_BLOCKS
  reach-short k known high =
      let few = reach-few f.horizon (blocks (window f)) w.tree (numbered (blocks f.all) k)
      (reach_among k known high) (f.horizon - 2) (omega arith) high in
      let most = w.few in
      omega (arith, few, most)

module _ (f : ForestState) where
  -- the number of a block that stands
  pub stored-block-at : (d : Bytes) (k : ℕ) → IsStoredAt f d k → IsBlockAt f d k
  stored-block-at d k is =
      let within = nth-within f.all k is.stored is.at in
      let known = within.1 in
      record {
        found = blocks-found d (window f)
            ∙ (ap (block_from d) is.found
            ∙ ap (λ (b : Branch). Some b) (sym (nth-branch f.all k is.stored is.at)));
        here = record { known = (let n = blocks-count f.all in omega (arith, n, known)); kept = inr is.kept };
      }

  pub genesis-at : (d : Bytes) → stored_in d (window f) ≡ None → find_in d ([] ∷ []) ≡ Some []
      → IsBlockAt f d 0
  genesis-at d none e = record {
    found = blocks-found d (window f)
        ∙ (ap (block_from d) none ∙ (e ∙ ap (λ (b : Branch). Some b) (sym (numbered-genesis f.all))));
    here = record { known = (let n = blocks-count f.all in omega (arith, n)); kept = inl refl };
  }

  pub nothing-at : (d : Bytes) → stored_in d (window f) ≡ None → find_in d ([] ∷ []) ≡ None
      → find_in d (blocks (window f)) ≡ None
  nothing-at d none e = blocks-found d (window f) ∙ (ap (block_from d) none ∙ e)
