use Rattle.std.proofs.Common.{arith, sym, ◌∙◌}
use Rattle.frames_view.proofs.Contents.{fetch_front}
use Rattle.definitions.proofs.Slices.{LiesAt-behind, LeftAt-behind}
use Rattle.frames_view.proofs.Places.{lies_behind}
use Rattle.frames_view.proofs.fetch.take_fetch.Goals as goal

pub before-content-requires : goal.before-content-requires
before-content-requires c =
    (fetch_front c.args.bytes.now (λ i. omega (arith, c.type_inv.bytes i)) c.n.result
    (omega (arith, c.n.type_inv)) c.in_ok-sender.sender c.in_ok-digest.digest.now _ _
    (sym c.in_ok-sender.ensures.taken) (sym c.in_ok-digest.ensures.taken)).0

pub invariant_of-fetch : goal.invariant_of-fetch
invariant_of-fetch c =
    record {
      spelled =
          c.before-content.ensures.value
          ∙ (fetch_front c.args.bytes.now (λ i. omega (arith, c.type_inv.bytes i)) c.n.result
          (omega (arith, c.n.type_inv)) c.in_ok-sender.sender c.in_ok-digest.digest.now _ _
          (sym c.in_ok-sender.ensures.taken) (sym c.in_ok-digest.ensures.taken)).1;
    }

pub returns-clause-lent : goal.returns-clause-lent
returns-clause-lent c =
    let bytes = c.args.bytes in
    let sender = c.in_ok-sender in
    let digest = c.in_ok-digest in
    let content = c.before-content in
    let s1 =
    LeftAt-behind bytes sender.rest digest.rest 2 32 34 (omega arith) sender.ensures.lent
    digest.ensures.lent.1 in (
      content.ensures.lent,
      LiesAt-behind bytes.now sender.rest.now digest.digest.now 2 0 2 (omega arith) sender.ensures.lent.0.0
          digest.ensures.lent.0,
      lies_behind bytes digest.rest 34 s1 content.result.now content.ensures.value c.in_ok-tag.tag.now
          c.in_ok-tag.ensures.lent.0,
    )
