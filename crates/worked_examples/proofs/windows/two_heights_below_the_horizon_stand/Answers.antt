-- The definitions compute.
use Rattle.std.proofs.Common.{refl}
use Rattle.worked_examples.proofs.windows.two_heights_below_the_horizon_stand.Goals as goal

pub returns-clause-window : goal.returns-clause-window
returns-clause-window c = refl

pub returns-clause-genesis : goal.returns-clause-genesis
returns-clause-genesis c = refl
