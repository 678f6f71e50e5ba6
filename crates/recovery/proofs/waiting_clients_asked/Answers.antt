-- The lemma of this name.
use Rattle.recovery.proofs.Requests.{waiting-asked}
use Rattle.recovery.proofs.waiting_clients_asked.Goals as goal

pub returns : goal.returns
returns c = waiting-asked
