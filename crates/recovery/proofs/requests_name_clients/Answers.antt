-- The lemma of this name.
use Rattle.recovery.proofs.Requests.{requests-named}
use Rattle.recovery.proofs.requests_name_clients.Goals as goal

pub returns : goal.returns
returns c = requests-named
