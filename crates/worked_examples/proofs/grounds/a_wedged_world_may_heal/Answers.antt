-- The lemmas of these names.
use Rattle.worked_examples.proofs.Waiting.{wedged_may_heal}
use Rattle.worked_examples.proofs.WaitingRun.{taken, premises}
use Rattle.worked_examples.proofs.grounds.a_wedged_world_may_heal.Goals as goal

pub returns : goal.returns
returns c = record { whole = taken; premises = premises; may = wedged_may_heal }
