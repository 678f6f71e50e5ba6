use Rattle.std.proofs.Common.{◌∙◌, ap, drop}
use Rattle.definitions.specs.Trees.{TreeState}
use Rattle.block_tree.proofs.tree.Tree.nth_newest.Goals as goal

pub returns : goal.returns
returns c s older e =
    c.nth_newest.ensures s older (ap (λ (t : TreeState). drop c.args.newer t.stored) c.self.view_is ∙ e)
