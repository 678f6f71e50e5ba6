use Rattle.std.proofs.Common.{◌++◌, ap, ◌∙◌}
use Rattle.std.specs.List.{flat_map}
use Rattle.definitions.specs.Bytes.{Bytes}
use Rattle.definitions.specs.Frames.{vote_bytes, certificate_text}
use Rattle.definitions.specs.Checks.{identity_of}
use Rattle.frames_view.specs.Views.{certificate_of}
use Rattle.certificates.proofs.Cutting.{cut_text}
use Rattle.certificates.proofs.cut.cut_bytes.Goals as goal

pub returns-clause-made : goal.returns-clause-made
returns-clause-made c =
    c.in_ok-write_certificate.ensures.appended
    ∙ ap (λ (l : Bytes). l ++ certificate_text c.digest.result.now c.in_ok-count.count c.deref.result.now)
    c.new-bytes.ensures.items
    ∙ cut_text (identity_of c.args.keyring.now) (certificate_of c.args.certificate.now) _ _ c.cut.result _
    c.digest.ensures.value c.cut.ensures.votes c.in_ok-count.ensures.count
    (c.deref.ensures.value ∙ c.in_ok-count.ensures.bytes
    ∙ ap (λ (l : Bytes). l ++ flat_map vote_bytes c.cut.result)
    (c.reserve.ensures.items ∙ c.new-votes.ensures.items))
