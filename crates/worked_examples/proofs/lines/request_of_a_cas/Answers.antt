-- It computes.
use Rattle.std.proofs.Common.{refl}
use Rattle.std.specs.Fmt.{digits}
use Rattle.definitions.specs.Canonical.{request_of}
use Rattle.worked_examples.proofs.lines.request_of_a_cas.Goals as goal

pub returns : goal.returns
unfolding digits request_of
returns c = refl
