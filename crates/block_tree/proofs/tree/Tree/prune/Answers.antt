use Rattle.std.proofs.Common.{◌≡◌, ◌+◌, ◌≤◌, ℕ, List, max, sym, ap, subst, ◌∙◌, arith}
use Rattle.std.proofs.Math.Nat.{max-eq_left, max-eq_right, max-le}
use Rattle.definitions.specs.Trees.{Stored, TreeState, standing}
use Rattle.definitions.proofs.Windows.{standing-again}
use Rattle.block_tree.specs.Nodes.{window}
use Rattle.block_tree.proofs.Counted.{pruned-counts}
use Rattle.block_tree.proofs.Sound.{pruned-whole}
use Rattle.block_tree.proofs.tree.Tree.prune.Goals as goal

abbrev value : ℕ → ℕ → List Stored → TreeState
value most horizon stored = record { most = most; horizon = horizon; stored = stored }

-- the tree pruned below a horizon
abbrev pruned : TreeState → ℕ → TreeState
pruned t horizon = value t.most horizon (standing horizon t.stored)

pub returns-then-horizon : goal.returns-then-horizon
returns-then-horizon c =
    let t = c.args.self.now in
    let f = c.self.inside.forest in
    let low : c.args.horizon ≤ t.horizon =
    omega (arith, c.if-horizon.true, c.horizon-2.view_is, c.horizon-3.view_is, c.horizon.ensures) in
    let same : t.stored ≡ standing t.horizon t.stored =
    subst (λ (t : TreeState). t.stored ≡ standing t.horizon t.stored) c.self.view_is
    (sym (standing-again f.horizon f.horizon f.all (omega arith))) in
    ap (value t.most t.horizon) same ∙ ap (pruned t) (sym (max-eq_right low))

pub invariant_of-self : goal.invariant_of-self
invariant_of-self c =
    let t = c.args.self.now in
    let f = c.self.inside.forest in
    let g = c.prune.new.self in
    let same : f.horizon ≡ t.horizon = ap (λ (t : TreeState). t.horizon) c.self.view_is in
    let higher : f.horizon ≤ g.horizon =
    omega (
      arith,
      same,
      c.if-horizon.false,
      c.horizon-2.view_is,
      c.horizon-3.view_is,
      c.horizon.ensures,
      c.prune.ensures.horizon,
    ) in
    let old = c.self.invariant.base in
    let most : max c.floor.result c.self.inside.counts.base ≤ g.horizon + 1 =
    max-le (omega (arith, c.floor.ensures)) (omega (arith, old, higher)) in
    pruned-whole c.self.inside.most f g c.self.inside.counts c.prune-2.new.self c.self.invariant higher
    c.prune.ensures.all (omega (arith, most, c.prune-2.ensures.base))
    (pruned-counts c.self.inside.counts c.prune-2.new.self (window f) g.horizon c.floor.result
    c.self.invariant.counted c.floor.ensures c.prune-2.ensures.base c.prune-2.ensures.same
    c.prune-2.ensures.longer)

pub returns : goal.returns
returns c =
    let t = c.args.self.now in
    let f = c.self.inside.forest in
    let g = c.prune.new.self in
    let same : f.horizon ≡ t.horizon = ap (λ (t : TreeState). t.horizon) c.self.view_is in
    let higher : f.horizon ≤ g.horizon =
    omega (
      arith,
      same,
      c.if-horizon.false,
      c.horizon-2.view_is,
      c.horizon-3.view_is,
      c.horizon.ensures,
      c.prune.ensures.horizon,
    ) in
    let above : t.horizon ≤ c.args.horizon =
    omega (arith, c.if-horizon.false, c.horizon-2.view_is, c.horizon-3.view_is, c.horizon.ensures) in
    let now : max c.args.horizon t.horizon ≡ g.horizon = max-eq_left above ∙ sym c.prune.ensures.horizon in
    ap (value c.self.inside.most g.horizon)
    (ap (λ (l : List Stored). standing g.horizon l) c.prune.ensures.all
    ∙ sym (standing-again f.horizon g.horizon f.all higher))
    ∙ (ap (λ (t : TreeState). pruned t g.horizon) c.self.view_is ∙ ap (pruned t) (sym now))
