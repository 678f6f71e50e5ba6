-- The lemma of this name.
use Rattle.recovery.proofs.Rounds.{rounds-certify}
use Rattle.recovery.proofs.rounds_certify.Goals as goal

pub returns : goal.returns
returns c = rounds-certify
