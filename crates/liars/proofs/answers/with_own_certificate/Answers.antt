use Rattle.std.proofs.Common.{ap, ◌∙◌, []}
use Rattle.definitions.specs.Bytes.{Bytes}
use Rattle.definitions.specs.Frames.{certificate_bytes}
use Rattle.frames_view.specs.Views.{core_of}
use Rattle.liars.specs.Lies.{own_certificate}
use Rattle.liars.proofs.answers.with_own_certificate.Goals as goal

pub returns-clause-made : goal.returns-clause-made
returns-clause-made c =
    c.answer.ensures.made (core_of c.args.core.now) (own_certificate (core_of c.args.core.now)) c.raw.ensures.value
    (c.deref.ensures.value ∙ c.in_ok-certificate.ensures.made
    ∙ ap (λ (d : Bytes). certificate_bytes (record { digest = d; votes = [] })) c.digest.ensures)
