use Rattle.std.proofs.Common.{arith, sym, ◌∙◌, ◌+◌, length}
use Rattle.frames_view.proofs.Contents.{reply_front}
use Rattle.definitions.proofs.Slices.{LentAt-behind, LeftAt-behind}
use Rattle.frames_view.proofs.Places.{lies_behind}
use Rattle.frames_view.proofs.reply.take_reply.Goals as goal

pub before-content-requires : goal.before-content-requires
before-content-requires c =
    (reply_front c.args.bytes.now (λ i. omega (arith, c.type_inv.bytes i)) c.n.result
    (omega (arith, c.n.type_inv)) c.clients.result (omega (arith, c.clients.type_inv))
    c.in_ok-replica.replica c.in_ok-client.client c.in_ok-seq.seq c.in_ok-place.place
    c.in_ok-text.text.now _ _ _ _ _
    (sym c.in_ok-replica.ensures.taken) (sym c.in_ok-client.ensures.taken) (sym c.in_ok-seq.ensures.taken)
    (sym c.in_ok-place.ensures.taken) (sym c.in_ok-text.ensures.taken)).0

pub invariant_of-reply : goal.invariant_of-reply
invariant_of-reply c =
    record {
      spelled =
          c.before-content.ensures.value
          ∙ (reply_front c.args.bytes.now (λ i. omega (arith, c.type_inv.bytes i)) c.n.result
          (omega (arith, c.n.type_inv)) c.clients.result (omega (arith, c.clients.type_inv))
          c.in_ok-replica.replica c.in_ok-client.client c.in_ok-seq.seq c.in_ok-place.place
          c.in_ok-text.text.now _ _ _ _ _
          (sym c.in_ok-replica.ensures.taken) (sym c.in_ok-client.ensures.taken)
          (sym c.in_ok-seq.ensures.taken) (sym c.in_ok-place.ensures.taken)
          (sym c.in_ok-text.ensures.taken)).1;
    }

pub returns-clause-lent : goal.returns-clause-lent
returns-clause-lent c =
    let bytes = c.args.bytes in
    let text = c.in_ok-text in
    let content = c.before-content in
    let len = length text.text.now in
    let s1 = LeftAt-behind bytes c.in_ok-replica.rest c.in_ok-client.rest 2 2 4 (omega arith)
    c.in_ok-replica.ensures.lent c.in_ok-client.ensures.lent in
    let s2 = LeftAt-behind bytes c.in_ok-client.rest c.in_ok-seq.rest 4 8 12 (omega arith) s1
    c.in_ok-seq.ensures.lent in
    let s3 = LeftAt-behind bytes c.in_ok-seq.rest c.in_ok-place.rest 12 8 20 (omega arith) s2
    c.in_ok-place.ensures.lent in
    let s4 =
    LeftAt-behind bytes c.in_ok-place.rest text.rest 20 (4 + len) (24 + len) (omega arith) s3
    text.ensures.lent.1 in (
      content.ensures.lent,
      LentAt-behind bytes c.in_ok-place.rest text.text 20 4 24 (omega arith) s3.0 text.ensures.lent.0,
      lies_behind bytes text.rest (24 + len) s4 content.result.now content.ensures.value c.in_ok-tag.tag.now
          c.in_ok-tag.ensures.lent.0,
    )
