use Rattle.std.proofs.Common.{sym}
use Rattle.definitions.proofs.RequestTexts.{request_of_some}
use Rattle.mc_lines.specs.Meaning.{asked_of}
use Rattle.replica_cases.proofs.session.told.submit.Goals as goal

pub submit-requires : goal.submit-requires
submit-requires c =
    (request_of_some c.as_slice.result.now (asked_of c.in-Some.request) (sym c.in-Some.ensures.value)).0
