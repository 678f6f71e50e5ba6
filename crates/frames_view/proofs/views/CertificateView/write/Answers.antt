use Rattle.std.proofs.Common.{◌≡◌, subst}
use Rattle.definitions.specs.Bytes.{Bytes}
use Rattle.definitions.specs.Writing.{IsAppended}
use Rattle.definitions.specs.Frames.{certificate_text, certificate_bytes}
use Rattle.frames_view.specs.Views.{certificate_of}
use Rattle.frames_view.proofs.views.CertificateView.write.Goals as goal

pub returns : goal.returns
returns c =
    let q = c.args.self.now in
    let spelled : certificate_text q.digest.now q.count q.votes.now ≡ certificate_bytes (certificate_of q) =
    cc (q.counted, q.trimmed) in
    subst
    (λ (t : Bytes). IsAppended c.args.out.now c.write_certificate.new.out t c.write_certificate.result)
    spelled c.write_certificate.ensures
