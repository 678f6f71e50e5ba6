-- The lemmas of these names.
use Rattle.worked_examples.proofs.OnePruned.{horizon_is_executed, two_below_stand}
use Rattle.worked_examples.proofs.pruning.a_pruning_leaves_a_window.Goals as goal

pub returns : goal.returns
returns c = record { horizon = horizon_is_executed; window = two_below_stand }
