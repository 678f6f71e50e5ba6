-- The lemmas of these names.
use Rattle.worked_examples.proofs.OnePruned.{pruned_is_unknown}
use Rattle.worked_examples.proofs.pruning.a_pruned_block_is_unknown.Goals as goal

pub returns : goal.returns
returns c = pruned_is_unknown
