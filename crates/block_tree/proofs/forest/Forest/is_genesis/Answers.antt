use Rattle.std.proofs.Common.{sym, ap, ◌∙◌, bytes_eq, List, ℕ}
use Rattle.block_tree.proofs.Kept.{genesis-digest}
use Rattle.block_tree.proofs.forest.Forest.is_genesis.Goals as goal

pub returns : goal.returns
returns c =
    c.is_same.ensures
    ∙ ap (λ (d : List ℕ). bytes_eq d c.args.digest.now) (c.self.invariant.genesis ∙ sym genesis-digest)
