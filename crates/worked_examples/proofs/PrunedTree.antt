-- A pruned tree, computed.
use Rattle.std.proofs.Common.{refl}
use Rattle.worked_examples.specs.Windows.{JustifiesTheHorizon, JustifiesBelow, OtherTests, BeforeThePruning}
use Rattle.worked_examples.proofs.Computed.{of_steps}

pub justifies_the_horizon : JustifiesTheHorizon
unfolding of_steps
justifies_the_horizon = (refl, refl)

pub justifies_below : JustifiesBelow
unfolding of_steps
justifies_below = (refl, refl, refl, refl)

pub other_tests : OtherTests
unfolding of_steps
other_tests = (refl, refl)

pub before_the_pruning : BeforeThePruning
unfolding of_steps
before_the_pruning = (refl, refl, refl)
