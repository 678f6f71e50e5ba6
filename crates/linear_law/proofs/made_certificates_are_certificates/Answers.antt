-- The lemma of this name.
use Rattle.linear_law.proofs.WholeRuns.{made-are-certificates}
use Rattle.linear_law.proofs.made_certificates_are_certificates.Goals as goal

pub returns : goal.returns
returns c = made-are-certificates
