-- The lemmas of these names.
use Rattle.worked_examples.proofs.OnePruned.{goes_on, refuses_the_low, took_the_low}
use Rattle.worked_examples.proofs.pruning.what_justifies_a_pruned_block_is_refused.Goals as goal

pub returns : goal.returns
returns c = record { goes_on = goes_on; refuses = refuses_the_low; before = took_the_low }
