-- The lemmas of these names.
use Rattle.worked_examples.proofs.PrunedTree.{justifies_the_horizon, justifies_below, other_tests}
use Rattle.worked_examples.proofs.PrunedTree.{before_the_pruning}
use Rattle.worked_examples.proofs.windows.what_justifies_below_the_horizon_is_refused.Goals as goal

pub returns : goal.returns
returns c = record {
  above = justifies_the_horizon;
  below = justifies_below;
  others = other_tests;
  before = before_the_pruning;
}
