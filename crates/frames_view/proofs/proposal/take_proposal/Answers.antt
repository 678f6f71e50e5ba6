use Rattle.std.proofs.Common.{arith, sym, ◌∙◌, ◌+◌, length}
use Rattle.frames_view.specs.Views.{core_of, certificate_of}
use Rattle.frames_view.proofs.Contents.{proposal_front}
use Rattle.definitions.proofs.Slices.{LeftAt-behind}
use Rattle.frames_view.proofs.Places.{lent_behind, IsCoreAt-behind, IsCertificateAt-behind}
use Rattle.frames_view.proofs.proposal.take_proposal.Goals as goal

pub before-content-requires : goal.before-content-requires
before-content-requires c =
    (proposal_front c.args.bytes.now (λ i. omega (arith, c.type_inv.bytes i)) c.args.config.now
    (omega (arith, c.n-replicas.ensures.count, c.n-replicas.type_inv)) c.in_ok-view.view
    (core_of c.in_ok-core.core) (certificate_of c.in_ok-certificate.certificate) _ _ _
    (sym c.in_ok-view.ensures.taken) c.in_ok-core.ensures.spelled (sym c.in_ok-certificate.ensures.taken)).0

pub invariant_of-proposal : goal.invariant_of-proposal
invariant_of-proposal c =
    record {
      spelled =
          c.before-content.ensures.value
          ∙ (proposal_front c.args.bytes.now (λ i. omega (arith, c.type_inv.bytes i)) c.args.config.now
          (omega (arith, c.n-replicas.ensures.count, c.n-replicas.type_inv)) c.in_ok-view.view
          (core_of c.in_ok-core.core) (certificate_of c.in_ok-certificate.certificate) _ _ _
          (sym c.in_ok-view.ensures.taken) c.in_ok-core.ensures.spelled
          (sym c.in_ok-certificate.ensures.taken)).1;
    }

pub returns-clause-lent : goal.returns-clause-lent
returns-clause-lent c =
    let bytes = c.args.bytes in
    let view = c.in_ok-view in
    let core = c.in_ok-core in
    let certificate = c.in_ok-certificate in
    let content = c.before-content in
    let raw = length core.core.raw.now in
    let votes = length certificate.certificate.votes.now in
    let s1 = LeftAt-behind bytes view.rest core.rest 8 raw (8 + raw) (omega arith) view.ensures.lent
    core.ensures.lent.1 in
    let s2 =
    LeftAt-behind bytes core.rest certificate.rest (8 + raw) (33 + votes) (8 + raw + (33 + votes))
    (omega arith) s1 certificate.ensures.lent.1 in (
      content.ensures.lent,
      IsCoreAt-behind bytes view.rest 8 0 8 (omega arith) view.ensures.lent.0 core.core core.ensures.lent.0,
      IsCertificateAt-behind bytes core.rest (8 + raw) 0 (8 + raw) (omega arith) s1.0
          certificate.certificate certificate.ensures.lent.0,
      lent_behind bytes certificate.rest (8 + raw + (33 + votes)) s2 content.result.now
          content.ensures.value c.in_ok-vector.vector c.in_ok-vector.ensures.lent.0,
    )
