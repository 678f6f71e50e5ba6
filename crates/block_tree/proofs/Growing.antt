-- A forest that takes a new block.
use Rattle.ids.specs.declared.limits.TheConstants.{MOST_BLOCKS}
use Rattle.std.proofs.Common.{ℕ, cond, bytes_eq, suc, ◌≡◌, ◌<◌, ◌≤◌, ◌+◌, ◌^◌, Bool, true, false, List, []}
use Rattle.std.proofs.Common.{◌∷◌}
use Rattle.std.proofs.Common.{length, refl, sym, ap, subst, ◌∙◌, arith, inl, inr, Option, Some, None}
use Rattle.std.proofs.lemmas.Bool.{le-leb, cond-true}
use Rattle.definitions.specs.Bytes.{Bytes}
use Rattle.definitions.specs.Frames.{genesis_core}
use Rattle.definitions.specs.Branches.{Branch, IsBranch}
use Rattle.definitions.specs.Digests.{digest}
use Rattle.definitions.specs.Trees.{Stored, blocks, standing, IsTree}
use Rattle.definitions.proofs.Trees.{IsGrowth, growth-tree, found-in, digest-core, core-known}
use Rattle.definitions.proofs.Windows.{standing-grown}
use Rattle.block_tree.specs.declared.node.Node.{Node}
use Rattle.block_tree.specs.declared.forest.Entry.{Entry}
use Rattle.block_tree.specs.declared.index.Index.{Index}
use Rattle.block_tree.specs.declared.links.Links.{Links}
use Rattle.block_tree.specs.Indexed.{number_of}
use Rattle.block_tree.specs.Numbers.{AreLinks, stored_number, from_number}
use Rattle.block_tree.specs.Nodes.{branch_in, block_in, stored_as, IsNode, IsNodeOf, ForestState, window}
use Rattle.block_tree.specs.Nodes.{IsForest}
use Rattle.block_tree.proofs.Numbers.{blocks-count}
use Rattle.block_tree.proofs.Numbered.{numbered-older}
use Rattle.block_tree.proofs.Window.{newest-grown}

-- ---- a new node

pub growth : (horizon : ℕ) (n : Node) (t : List Branch) → IsNode horizon n t
    → IsGrowth horizon (suc (length t)) n.core n.certificate t (block_in n.core t)
    (branch_in n.core.parent t)
growth horizon n t h = record {
  is = refl;
  parent_found = h.parent;
  new = h.new;
  height = h.height;
  justified = h.certified;
  room = omega arith;
  low = (let low = h.low in let height = h.height in omega (arith, low, height));
  above = h.above;
}

node_of : (horizon : ℕ) (n : Node) (t : List Branch) → IsNode horizon n t → IsNodeOf n (stored_as n t)
node_of horizon n t h =
    let parent = sym (found-in n.core.parent t (branch_in n.core.parent t) h.parent).1 in
    record {
      named = h.named ∙ sym (digest-core n.core (branch_in n.core.parent t) parent h.height);
      core = sym (core-known n.core (branch_in n.core.parent t) parent h.height);
      certificate = refl;
      clear = refl;
    }

-- it is in reach
pub node-reach : (horizon : ℕ) (n : Node) (t : List Branch) → IsNode horizon n t
    → horizon ≤ length (block_in n.core t) + 2
node-reach horizon n t h =
    let above = h.above in let below = h.justify in let height = h.height in omega (
      arith,
      above,
      below,
      height,
    )

-- the tree with it
pub tree-grown : (f : ForestState) (n : Node) → IsTree f.horizon (blocks (window f))
    → IsNode f.horizon n (blocks (window f))
    → IsTree f.horizon (blocks (standing f.horizon (stored_as n (blocks (window f)) ∷ f.all)))
tree-grown f n tr is =
    let t = blocks (window f) in
    subst (λ (l : List Stored). IsTree f.horizon (blocks l))
    (sym (standing-grown f.horizon (stored_as n t) f.all (node-reach f.horizon n t is)))
    (growth-tree f.horizon (suc (length t)) n.core n.certificate t (block_in n.core t)
    (branch_in n.core.parent t) tr is.justify (growth f.horizon n t is))

index_step : (first k last : ℕ) → k ≡ last → first ≤ last → (o : Option ℕ) (t : Bool)
    → cond t (Some k) (from_number first o) ≡ from_number first (cond t (Some last) o)
index_step first k last e low o true =
    ap (λ (n : ℕ). Some n) e ∙ sym (cond-true _ _ _ (le-leb first last low))
index_step first k last e low o false = refl

pub taken : (f : ForestState) (first : Bytes) (row : List Entry) (index new : Index) → IsForest f first row
    index
    → (n : Node) (links : Links) → IsNode f.horizon n (blocks (window f))
    → length (blocks (window f)) < MOST_BLOCKS → length f.all + 2 < 2 ^ 64
    → AreLinks f.horizon (blocks f.all) (block_in n.core (blocks (window f))) links → (k : ℕ)
    → k ≡ f.first + length row
    → ((d : Bytes) → number_of new d ≡ cond (bytes_eq n.digest d) (Some k) (number_of index d))
    → IsForest (record {
      horizon = f.horizon;
      first = f.first;
      all = stored_as n (blocks (window f)) ∷ f.all;
    }) first (record { node = n; links = links } ∷ row) new
unfolding stored_number
taken f first row index new w n links is room fits link k number entry =
    let t = blocks (window f) in
    let s = stored_as n t in
    let count = w.count in
    let own = node_of f.horizon n t is in
    let all = blocks-count f.all in
    let wider : length (blocks (standing f.horizon (s ∷ f.all))) ≡ suc (length t) =
    ap (λ (l : List Stored). length (blocks l)) (standing-grown f.horizon s f.all (node-reach f.horizon n t
    is)) in
    record {
      genesis = w.genesis;
      tree = tree-grown f n w.tree is;
      few = omega (arith, wider, room);
      newest = newest-grown f.horizon s f.all
          (le-leb f.horizon (length s.branch + 2) (node-reach f.horizon n t is)) w.newest;
      some = w.some;
      count = omega (arith, count);
      numbers = omega (arith, fits);
      entries = (record { node = own; certified = is.certified; links = link }, w.entries);
      gone = λ j above low. (let gone = w.gone j above low in
          let same = ap (λ (b : Branch). length b) (numbered-older s.branch (blocks f.all) j
          (omega (arith, low, count, all))) in omega (arith, gone, same));
      indexed = λ d.
          entry d
          ∙ (ap (λ (o : Option ℕ). cond (bytes_eq n.digest d) (Some k) o) (w.indexed d)
          ∙ (index_step f.first k (suc (length f.all)) (omega (arith, number, count)) (omega (arith, count))
          (stored_number d f.all) (bytes_eq n.digest d)
          ∙ ap (λ (e : Bytes). from_number f.first
          (cond (bytes_eq e d) (Some (suc (length f.all))) (stored_number d f.all))) own.named));
    }

-- an index that says the same
pub same-index : (f : ForestState) (first : Bytes) (row : List Entry) (index new : Index)
    → IsForest f first row index → ((d : Bytes) → number_of new d ≡ number_of index d)
    → IsForest f first row new
same-index f first row index new w same = record {
  genesis = w.genesis;
  tree = w.tree;
  few = w.few;
  newest = w.newest;
  some = w.some;
  count = w.count;
  numbers = w.numbers;
  entries = w.entries;
  gone = w.gone;
  indexed = λ d. same d ∙ w.indexed d;
}

-- ---- genesis alone

pub genesis-tree : IsTree 0 ([] ∷ [])
genesis-tree = record {
  branches = λ x m. elim m [ inl e ↦ subst IsBranch (sym e) tt | inr n ↦ absurd n ];
  one = λ x y m n d. elim m [ inl e ↦ elim n [ inl k ↦ e ∙ sym k | inr k ↦ absurd k ] | inr k ↦ absurd k ];
  parents = λ b parent m. elim m [ inl e ↦ absurd (cc) | inr n ↦ absurd n ];
  genesis = inl refl;
}

pub genesis-forest : (first : Bytes) (index : Index) → first ≡ digest genesis_core
    → ((d : Bytes) → number_of index d ≡ None)
    → IsForest (record { horizon = 0; first = 1; all = [] }) first [] index
unfolding stored_number
genesis-forest first index genesis none = record {
  genesis = genesis;
  tree = genesis-tree;
  few = omega arith;
  newest = λ d. refl;
  some = omega arith;
  count = refl;
  numbers = omega arith;
  entries = tt;
  gone = λ k above low. absurd (omega (arith, above, low));
  indexed = none;
}
