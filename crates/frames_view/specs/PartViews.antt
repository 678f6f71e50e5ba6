-- What the views of cores and certificates say.
use Rattle.definitions.specs.Frames.{Core, Certificate}
use Rattle.frames_view.specs.declared.views.CertificateView.{CertificateView}
use Rattle.frames_view.specs.declared.views.CoreView.{CoreView}
use Rattle.frames_view.specs.Readings.{elements}
use Rattle.frames_view.specs.Parts.{vote_in}
use Rattle.frames_view.specs.Cores.{core_of_fields}

-- the certificate that a view shows
abbrev pub certificate_of : CertificateView → Certificate
certificate_of q = record { digest = q.digest.now; votes = elements (vote_in q.replicas) q.count q.votes.now }

-- the core that a view shows
abbrev pub core_of : CoreView → Core
core_of k = core_of_fields k.fields
