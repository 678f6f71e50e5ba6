use Rattle.std.proofs.Common.{sym, subst, reverse, List, []}
use Rattle.definitions.specs.Trees.{Stored}
use Rattle.block_tree.specs.declared.forest.Entry.{Entry}
use Rattle.block_tree.specs.Nodes.{IsForest}
use Rattle.block_tree.proofs.Growing.{genesis-forest}
use Rattle.block_tree.proofs.forest.Forest.new.Goals as goal

pub invariant_of-result : goal.invariant_of-result
invariant_of-result c =
    subst (λ (l : List Entry). IsForest (record { horizon = 0; first = 1; all = c.new-3.result.items })
    c.genesis_digest.result (reverse l) c.new-2.result) (sym c.new.ensures.items)
    (subst (λ (l : List Stored). IsForest (record { horizon = 0; first = 1; all = l })
    c.genesis_digest.result []
    c.new-2.result) (sym c.new-3.ensures)
    (genesis-forest c.genesis_digest.result c.new-2.result c.genesis_digest.ensures c.new-2.ensures))
