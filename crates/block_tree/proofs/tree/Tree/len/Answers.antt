use Rattle.std.proofs.Common.{◌≡◌, length, ap, arith}
use Rattle.definitions.specs.Trees.{TreeState, blocks}
use Rattle.definitions.proofs.Windows.{blocks-length}
use Rattle.block_tree.specs.Nodes.{window}
use Rattle.block_tree.proofs.Counted.{total-of}
use Rattle.block_tree.proofs.tree.Tree.len.Goals as goal

pub overflow_add-result : goal.overflow_add-result
overflow_add-result c =
    let stored = window c.self.inside.forest in
    let total = total-of c.self.inside.counts stored c.self.invariant.counted in
    omega (arith, total, blocks-length stored, c.total.ensures, c.self.invariant.room, c.self.invariant.limit)

pub returns : goal.returns
returns c =
    let stored = window c.self.inside.forest in
    let total = total-of c.self.inside.counts stored c.self.invariant.counted in
    let same : length (blocks stored) ≡ length (blocks c.args.self.now.stored) =
    ap (λ (t : TreeState). length (blocks t.stored)) c.self.view_is in
    omega (arith, total, blocks-length stored, c.total.ensures, same)
