use Rattle.definitions.proofs.Horizons.{window-all}
use Rattle.worked_examples.proofs.pruning.what_was_never_pruned_is_whole.Goals as goal

pub returns : goal.returns
returns c k z = window-all k z
