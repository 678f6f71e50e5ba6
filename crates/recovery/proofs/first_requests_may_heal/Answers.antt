-- The lemma of this name.
use Rattle.recovery.proofs.FirstRequests.{first-requests}
use Rattle.recovery.proofs.first_requests_may_heal.Goals as goal

pub returns : goal.returns
returns c = first-requests
