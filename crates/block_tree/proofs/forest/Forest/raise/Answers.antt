use Rattle.std.proofs.Common.{◌≡◌, ap, arith, reverse}
use Rattle.block_tree.specs.Nodes.{ForestState}
use Rattle.block_tree.proofs.Pruning.{raised}
use Rattle.block_tree.proofs.forest.Forest.raise.Goals as goal

pub invariant_of-self : goal.invariant_of-self
invariant_of-self c =
    let inside = c.self.inside in
    raised (record { horizon = inside.horizon; first = inside.first; all = inside.all.items }) inside.genesis
    (reverse inside.entries.items) inside.index c.self.invariant c.args.horizon
    (let same : inside.horizon ≡ c.args.self.now.horizon = ap (λ (f : ForestState). f.horizon) c.self.view_is
    in
    omega (arith, c.requires, same))
