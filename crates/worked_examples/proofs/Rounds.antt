-- A first round, computed.
use Rattle.std.proofs.Common.{refl}
use Rattle.worked_examples.specs.Rounds.{SentSizes, SentIn}
use Rattle.worked_examples.proofs.Computed.{of_runs}

-- how many bytes the frames have
pub sent_sizes : SentSizes
unfolding of_runs
sent_sizes = refl

-- when they are sent
pub sent_in : SentIn
unfolding of_runs
sent_in = refl
