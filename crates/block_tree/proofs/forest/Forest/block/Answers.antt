use Rattle.block_tree.proofs.Numbers.{nth-within}
use Rattle.block_tree.proofs.forest.Forest.block.Goals as goal

pub entry_at-requires-clause-known : goal.entry_at-requires-clause-known
entry_at-requires-clause-known c =
    let is = c.in_ok-number.ensures in (nth-within c.args.self.now.all c.in_ok-number.number is.stored
    is.at).1
