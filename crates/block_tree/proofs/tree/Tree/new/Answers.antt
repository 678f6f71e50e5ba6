use Rattle.block_tree.proofs.Sound.{genesis-whole}
use Rattle.block_tree.proofs.tree.Tree.new.Goals as goal

pub invariant_of-result : goal.invariant_of-result
invariant_of-result c =
    rw (c.new.ensures, c.new-2.ensures) (genesis-whole c.args.most c.requires.0 c.requires.1)
