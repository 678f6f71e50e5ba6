use Rattle.std.proofs.Common.{arith, sym, ◌∙◌, ◌+◌, length}
use Rattle.frames_view.specs.Views.{core_of, certificate_of}
use Rattle.frames_view.proofs.Contents.{block_front}
use Rattle.definitions.proofs.Slices.{LeftAt-behind}
use Rattle.frames_view.proofs.Places.{lies_behind, IsCoreAt-behind, IsCertificateAt-behind}
use Rattle.frames_view.proofs.block.take_block.Goals as goal

pub before-content-requires : goal.before-content-requires
before-content-requires c =
    (block_front c.args.bytes.now (λ i. omega (arith, c.type_inv.bytes i)) c.n.result
    (omega (arith, c.n.type_inv)) c.args.config.now (omega (arith, c.n.ensures.count, c.n.type_inv))
    c.in_ok-sender.sender (core_of c.in_ok-core.core) (certificate_of c.in_ok-certificate.certificate) _ _
    _
    (sym c.in_ok-sender.ensures.taken) c.in_ok-core.ensures.spelled (sym c.in_ok-certificate.ensures.taken)).0

pub invariant_of-block : goal.invariant_of-block
invariant_of-block c =
    record {
      spelled =
          c.before-content.ensures.value
          ∙ (block_front c.args.bytes.now (λ i. omega (arith, c.type_inv.bytes i)) c.n.result
          (omega (arith, c.n.type_inv)) c.args.config.now (omega (arith, c.n.ensures.count, c.n.type_inv))
          c.in_ok-sender.sender (core_of c.in_ok-core.core)
          (certificate_of c.in_ok-certificate.certificate) _ _ _
          (sym c.in_ok-sender.ensures.taken) c.in_ok-core.ensures.spelled
          (sym c.in_ok-certificate.ensures.taken)).1;
    }

pub returns-clause-lent : goal.returns-clause-lent
returns-clause-lent c =
    let bytes = c.args.bytes in
    let sender = c.in_ok-sender in
    let core = c.in_ok-core in
    let certificate = c.in_ok-certificate in
    let content = c.before-content in
    let raw = length core.core.raw.now in
    let votes = length certificate.certificate.votes.now in
    let s1 = LeftAt-behind bytes sender.rest core.rest 2 raw (2 + raw) (omega arith) sender.ensures.lent
    core.ensures.lent.1 in
    let s2 =
    LeftAt-behind bytes core.rest certificate.rest (2 + raw) (33 + votes) (2 + raw + (33 + votes))
    (omega arith) s1 certificate.ensures.lent.1 in (
      content.ensures.lent,
      IsCoreAt-behind bytes sender.rest 2 0 2 (omega arith) sender.ensures.lent.0 core.core
          core.ensures.lent.0,
      IsCertificateAt-behind bytes core.rest (2 + raw) 0 (2 + raw) (omega arith) s1.0
          certificate.certificate certificate.ensures.lent.0,
      lies_behind bytes certificate.rest (2 + raw + (33 + votes)) s2 content.result.now
          content.ensures.value c.in_ok-tag.tag.now c.in_ok-tag.ensures.lent.0,
    )
