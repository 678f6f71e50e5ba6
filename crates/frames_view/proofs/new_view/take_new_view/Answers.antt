use Rattle.std.proofs.Common.{arith, sym, ◌∙◌, ◌+◌, length}
use Rattle.frames_view.specs.Views.{certificate_of}
use Rattle.frames_view.proofs.Contents.{new_view_front}
use Rattle.definitions.proofs.Slices.{LeftAt-behind}
use Rattle.frames_view.proofs.Places.{lent_behind, IsCertificateAt-behind}
use Rattle.frames_view.proofs.new_view.take_new_view.Goals as goal

pub before-content-requires : goal.before-content-requires
before-content-requires c =
    (new_view_front c.args.bytes.now (λ i. omega (arith, c.type_inv.bytes i)) c.n-replicas.result
    (omega (arith, c.n-replicas.type_inv)) c.args.config.now
    (omega (arith, c.n-replicas.ensures.count, c.n-replicas.type_inv)) c.in_ok-view.view
    c.in_ok-sender.sender (certificate_of c.in_ok-certificate.certificate) _ _ _
    (sym c.in_ok-view.ensures.taken) (sym c.in_ok-sender.ensures.taken)
    (sym c.in_ok-certificate.ensures.taken)).0

pub invariant_of-new_view : goal.invariant_of-new_view
invariant_of-new_view c =
    record {
      spelled =
          c.before-content.ensures.value
          ∙ (new_view_front c.args.bytes.now (λ i. omega (arith, c.type_inv.bytes i)) c.n-replicas.result
          (omega (arith, c.n-replicas.type_inv)) c.args.config.now
          (omega (arith, c.n-replicas.ensures.count, c.n-replicas.type_inv)) c.in_ok-view.view
          c.in_ok-sender.sender (certificate_of c.in_ok-certificate.certificate) _ _ _
          (sym c.in_ok-view.ensures.taken) (sym c.in_ok-sender.ensures.taken)
          (sym c.in_ok-certificate.ensures.taken)).1;
    }

pub returns-clause-lent : goal.returns-clause-lent
returns-clause-lent c =
    let bytes = c.args.bytes in
    let sender = c.in_ok-sender in
    let certificate = c.in_ok-certificate in
    let content = c.before-content in
    let votes = length certificate.certificate.votes.now in
    let s1 = LeftAt-behind bytes c.in_ok-view.rest sender.rest 8 2 10 (omega arith)
    c.in_ok-view.ensures.lent sender.ensures.lent in
    let s2 =
    LeftAt-behind bytes sender.rest certificate.rest 10 (33 + votes) (43 + votes) (omega arith) s1
    certificate.ensures.lent.1 in (
      content.ensures.lent,
      IsCertificateAt-behind bytes sender.rest 10 0 10 (omega arith) s1.0 certificate.certificate
          certificate.ensures.lent.0,
      lent_behind bytes certificate.rest (43 + votes) s2 content.result.now content.ensures.value
          c.in_ok-vector.vector c.in_ok-vector.ensures.lent.0,
    )
