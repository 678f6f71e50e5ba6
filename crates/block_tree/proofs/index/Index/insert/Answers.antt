use Rattle.block_tree.proofs.index.Index.insert.Goals as goal

pub returns-clause-entered : goal.returns-clause-entered
returns-clause-entered c = λ d. c.in_ok-insert.ensures.updates.0 d
