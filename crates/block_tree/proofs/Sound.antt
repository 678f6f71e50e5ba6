-- What holds of what stands in a tree.
use Rattle.ids.specs.declared.limits.TheConstants.{MOST_BLOCKS}
use Rattle.std.proofs.Common.{ℕ, suc, ◌≡◌, ◌<◌, ◌≤◌, ◌+◌, ◌⊎◌, List, [], ◌∷◌, length, sym, ap, subst, ◌∙◌}
use Rattle.std.proofs.Common.{arith, inl, inr}
use Rattle.definitions.specs.Lists.{Among}
use Rattle.definitions.specs.Branches.{Branch}
use Rattle.definitions.specs.Trees.{Stored, TreeState, blocks, standing, IsTree}
use Rattle.definitions.proofs.Trees.{growth-new}
use Rattle.definitions.proofs.Windows.{standing-again, standing-cases, standing-fewer, standing-grown}
use Rattle.block_tree.specs.declared.node.Node.{Node}
use Rattle.block_tree.specs.Numbers.{CountsState, AreCounts}
use Rattle.block_tree.specs.Nodes.{ForestState, window, IsNode, stored_as, block_in, branch_in, Once, IsWhole}
use Rattle.block_tree.proofs.Counted.{genesis-counted}
use Rattle.block_tree.proofs.Window.{once-standing}
use Rattle.block_tree.proofs.Pruning.{tree-raised}
use Rattle.block_tree.proofs.Growing.{growth, node-reach, tree-grown, genesis-tree}

pub record IsSound (t : TreeState) : Type 0 where
  pub tree : IsTree t.horizon (blocks t.stored)
  pub once : Once t.stored
  pub low : (x : Branch) → Among x (blocks t.stored) → (x ≡ []) ⊎ (t.horizon ≤ length x + 2)
  pub room : length (blocks t.stored) ≤ t.most
  pub limit : t.most ≤ MOST_BLOCKS

-- of the value that a tree is seen as
pub sound-of : (most : ℕ) (f : ForestState) (counts : CountsState) (t : TreeState)
    → record { most = most; horizon = f.horizon; stored = window f } ≡ t → IsWhole most f counts → IsSound t
sound-of most f counts t e w = subst IsSound e (record {
  tree = w.tree;
  once = w.once;
  low = λ x m. elim (standing-cases f.horizon f.all x m) [ inl none ↦ inl none | inr r ↦ inr r.1 ];
  room = w.room;
  limit = w.limit;
})

pub genesis-whole : (most : ℕ) → 1 ≤ most → most ≤ MOST_BLOCKS
    → IsWhole most (record { horizon = 0; first = 1; all = [] }) (record { base = 1; heights = [] })
genesis-whole most some limit = record {
  tree = genesis-tree;
  once = tt;
  room = some;
  limit = limit;
  counted = genesis-counted;
  base = omega arith;
}

-- with one more block
pub grown-whole : (most : ℕ) (f : ForestState) (counts new : CountsState) (n : Node) → IsWhole most f counts
    → IsNode f.horizon n (blocks (window f)) → length (blocks (window f)) < most
    → new.base ≡ counts.base → AreCounts new (stored_as n (blocks (window f)) ∷ window f)
    → IsWhole most (record {
      horizon = f.horizon;
      first = f.first;
      all = stored_as n (blocks (window f)) ∷ f.all;
    }) new
grown-whole most f counts new n w is room base counted =
    let t = blocks (window f) in
    let s = stored_as n t in
    let wider = standing-grown f.horizon s f.all (node-reach f.horizon n t is) in
    let long = ap (λ (l : List Stored). length (blocks l)) wider in
    record {
      tree = tree-grown f n w.tree is;
      once = subst Once (sym wider) (
        growth-new f.horizon (suc (length t)) n.core n.certificate t (block_in n.core t)
            (branch_in n.core.parent t) (growth f.horizon n t is),
        w.once,
      );
      room = omega (arith, long, room);
      limit = w.limit;
      counted = subst (AreCounts new) (sym wider) counted;
      base = (let low = w.base in omega (arith, low, base));
    }

-- and pruned
pub pruned-whole : (most : ℕ) (f g : ForestState) (counts new : CountsState) → IsWhole most f counts
    → f.horizon ≤ g.horizon → g.all ≡ f.all → new.base ≤ g.horizon + 1
    → AreCounts new (standing g.horizon (window f)) → IsWhole most g new
pruned-whole most f g counts new w le all base counted =
    let again = standing-again f.horizon g.horizon f.all le in
    let same : window g ≡ standing g.horizon f.all = ap (λ (l : List Stored). standing g.horizon l) all in
    let long = ap (λ (l : List Stored). length (blocks l)) same in
    record {
      tree = subst (λ (l : List Stored). IsTree g.horizon (blocks l)) (sym same)
          (tree-raised f.horizon g.horizon f.all le w.tree);
      once = subst Once (again ∙ sym same) (once-standing g.horizon (window f) w.once);
      room = (let room = w.room in
          let fewer = standing-fewer f.horizon g.horizon f.all le in
          omega (arith, room, fewer, long));
      limit = w.limit;
      counted = subst (AreCounts new) (again ∙ sym same) counted;
      base = base;
    }
