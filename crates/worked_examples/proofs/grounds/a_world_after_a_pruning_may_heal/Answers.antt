-- The lemmas of these names.
use Rattle.worked_examples.proofs.AfterPruning.{one_pruned, may_heal_it}
use Rattle.worked_examples.proofs.PrunedRun.{premises}
use Rattle.worked_examples.proofs.grounds.a_world_after_a_pruning_may_heal.Goals as goal

pub returns : goal.returns
returns c = record { pruned = one_pruned; premises = premises; may = may_heal_it }
