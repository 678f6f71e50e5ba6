-- Both ways.
use Rattle.std.proofs.Common.{ap, ◌∙◌}
use Rattle.definitions.specs.Canonical.{request_of}
use Rattle.definitions.proofs.RequestTexts.{request_of_some, request_of-canonical}
use Rattle.worked_examples.proofs.lines.request_of_finds_the_request.Goals as goal

pub returns : goal.returns
returns c payload r =
    (λ e. request_of_some payload r e, λ is. ap request_of is.1 ∙ request_of-canonical r is.0)
