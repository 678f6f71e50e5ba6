use Rattle.std.proofs.Common.{sym, ◌∙◌}
use Rattle.block_tree.proofs.Found.{genesis-found, genesis-missing}
use Rattle.block_tree.proofs.Kept.{stored-block-at, genesis-at, nothing-at}
use Rattle.block_tree.proofs.forest.Forest.number.Goals as goal

pub returns-in-Some : goal.returns-in-Some
returns-in-Some c =
    stored-block-at c.args.self.now
    c.args.digest.now c.in-Some.number c.in-Some.ensures

pub returns-in-None : goal.returns-in-None
returns-in-None c =
    genesis-at c.args.self.now
    c.args.digest.now c.in-None.ensures
    (genesis-found c.args.digest.now (sym c.is_genesis.ensures ∙ c.if-is_genesis.true))

pub returns-in-None-2 : goal.returns-in-None-2
returns-in-None-2 c =
    nothing-at c.args.self.now
    c.args.digest.now c.in-None.ensures
    (genesis-missing c.args.digest.now (sym c.is_genesis.ensures ∙ c.if-is_genesis.false))
