use Rattle.std.proofs.Common.{◌≡◌, ◌∷◌, ◌+◌, ◌<◌, ◌≤◌, ℕ, List, length, sym, ap, subst, ◌∙◌, arith}
use Rattle.definitions.specs.Trees.{Stored, TreeState, blocks}
use Rattle.definitions.proofs.Trees.{found-in}
use Rattle.definitions.proofs.Windows.{blocks-length, standing-grown}
use Rattle.block_tree.specs.declared.node.Node.{Node}
use Rattle.block_tree.specs.Nodes.{ForestState, branch_in, stored_as, window, IsNode, IsWhole}
use Rattle.block_tree.specs.Numbers.{CountsState, AreCounts}
use Rattle.block_tree.proofs.Counted.{same-counts, one-more, total-of}
use Rattle.block_tree.proofs.Growing.{node-reach}
use Rattle.block_tree.proofs.Sound.{grown-whole}
use Rattle.block_tree.proofs.tree.Tree.add.Goals as goal

-- a new block is at most one above the highest one
next_height : (n : Node) (h : ℕ) (stored : List Stored) (horizon : ℕ) → IsNode horizon n (blocks stored)
    → h ≡ n.core.height → (counts : CountsState) → AreCounts counts stored
    → h ≤ counts.base + length counts.heights
next_height n h stored horizon is e counts are =
    let t = blocks stored in
    let parent = are.high (branch_in n.core.parent t)
    (found-in n.core.parent t (branch_in n.core.parent t) is.parent).0 in
    let height = is.height in
    omega (arith, e, height, parent)

pub reach-requires-clause-next : goal.reach-requires-clause-next
reach-requires-clause-next c =
    let f = c.self.inside.forest in
    let is = subst (λ (t : TreeState). IsNode t.horizon c.args.node (blocks t.stored)) (sym c.self.view_is)
    c.requires.node in
    next_height c.args.node c.height-height.result (window f) f.horizon is (c.height-height.ensures)
    c.self.inside.counts c.self.invariant.counted

pub add_one-requires-clause-room : goal.add_one-requires-clause-room
add_one-requires-clause-room c =
    let stored = window c.self.inside.forest in
    let total = total-of c.self.inside.counts stored c.self.invariant.counted in
    omega (
      arith,
      total,
      blocks-length stored,
      c.reach.ensures.total,
      c.self.invariant.room,
      c.self.invariant.limit,
    )

pub invariant_of-self-2 : goal.invariant_of-self-2
invariant_of-self-2 c =
    let inside = c.self.inside in
    let f = inside.forest in
    let n = c.args.node in
    let is = subst (λ (t : TreeState). IsNode t.horizon n (blocks t.stored)) (sym c.self.view_is)
    c.requires.node in
    let room : length (blocks (window f)) < inside.most =
    subst (λ (t : TreeState). length (blocks t.stored) < t.most) (sym c.self.view_is) c.requires.room in
    let base = c.reach.ensures.base in
    let wide = same-counts inside.counts c.reach.new.self (window f) c.self.invariant.counted base
    c.reach.ensures.same c.reach.ensures.longer in
    let above = is.above in
    let below = is.justify in
    let low = c.self.invariant.base in
    let height = c.height-height.ensures in
    let counted = one-more c.reach.new.self c.add_one.new.self (stored_as n (blocks (window f))) (window f)
    c.height-height.result (c.height-height.ensures ∙ is.height) wide
    (omega (arith, base, low, above, below, height)) c.in_ok-reach.ensures.reached c.add_one.ensures.base
    c.add_one.ensures.counts c.add_one.ensures.long in
    subst (λ (f : ForestState). IsWhole inside.most f c.add_one.new.self) (sym c.in_ok-push.ensures.taken)
    (grown-whole inside.most f inside.counts c.add_one.new.self n c.self.invariant is room
    (c.add_one.ensures.base ∙ base) counted)

pub returns-clause-added : goal.returns-clause-added
returns-clause-added c =
    let inside = c.self.inside in
    let f = inside.forest in
    let n = c.args.node in
    let is = subst (λ (t : TreeState). IsNode t.horizon n (blocks t.stored)) (sym c.self.view_is)
    c.requires.node in
    let value : ForestState → TreeState =
    λ f. record { most = inside.most; horizon = f.horizon; stored = window f } in
    ap value c.in_ok-push.ensures.taken
    ∙ (ap (λ (l : List Stored). let u : TreeState =
    record { most = inside.most; horizon = f.horizon; stored = l } in u)
    (standing-grown f.horizon (stored_as n (blocks (window f))) f.all
    (node-reach f.horizon n (blocks (window f)) is))
    ∙ ap (λ (t : TreeState). let u : TreeState = record {
      most = t.most;
      horizon = t.horizon;
      stored = stored_as n (blocks t.stored) ∷ t.stored;
    } in u) c.self.view_is)
