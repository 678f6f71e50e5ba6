-- A pruned replica, computed.
use Rattle.std.proofs.Common.{refl}
use Rattle.definitions.specs.Sendings.{block_frame}
use Rattle.worked_examples.specs.Pruning.{HorizonIsExecuted, TwoBelowStand, GoesOn, RefusesTheLow}
use Rattle.worked_examples.specs.Pruning.{TookTheLow, PrunedIsUnknown}
use Rattle.worked_examples.proofs.Computed.{of_steps}

pub horizon_is_executed : HorizonIsExecuted
unfolding of_steps
horizon_is_executed = (refl, refl)

pub two_below_stand : TwoBelowStand
unfolding of_steps
two_below_stand = refl

pub goes_on : GoesOn
unfolding of_steps block_frame
goes_on = (refl, refl)

pub refuses_the_low : RefusesTheLow
unfolding of_steps block_frame
refuses_the_low = (refl, refl, refl)

pub took_the_low : TookTheLow
unfolding of_steps block_frame
took_the_low = (refl, refl, refl)

pub pruned_is_unknown : PrunedIsUnknown
unfolding of_steps block_frame
pruned_is_unknown = (refl, refl, refl)
