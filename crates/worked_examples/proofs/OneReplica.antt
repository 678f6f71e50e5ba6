-- One replica, computed.
use Rattle.std.proofs.Common.{refl}
use Rattle.worked_examples.specs.Replicas.{VotesAndLocks, Waits, Executes, Orphan, Gap, OtherJustified}
use Rattle.worked_examples.specs.Replicas.{KnownBlock, OtherView}
use Rattle.worked_examples.proofs.Computed.{of_runs}

pub votes_and_locks : VotesAndLocks
unfolding of_runs
votes_and_locks = (refl, refl, refl)

pub waits : Waits
unfolding of_runs
waits = (refl, refl, refl)

pub executes : Executes
unfolding of_runs
executes = (refl, refl, refl)

pub orphan : Orphan
unfolding of_runs
orphan = refl

pub gap : Gap
unfolding of_runs
gap = refl

pub other_justified : OtherJustified
unfolding of_runs
other_justified = refl

pub known_block : KnownBlock
unfolding of_runs
known_block = (refl, refl)

pub other_view : OtherView
unfolding of_runs
other_view = (refl, refl)
