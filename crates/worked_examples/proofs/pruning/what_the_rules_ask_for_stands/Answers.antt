-- The lemmas of these names.
use Rattle.definitions.proofs.Horizons.{lock-window, executed-window, high-window}
use Rattle.worked_examples.proofs.pruning.what_the_rules_ask_for_stands.Goals as goal

pub returns : goal.returns
returns c = record {
  lock = λ s k law. lock-window s k law;
  executed = λ s k law. executed-window s k law;
  certified = λ s k law x m l. high-window s k law x m l;
}
