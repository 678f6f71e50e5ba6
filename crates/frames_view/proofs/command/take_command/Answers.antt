use Rattle.std.proofs.Common.{◌+◌, length, arith, sym, ◌∙◌}
use Rattle.frames_view.specs.Parts.{content_in}
use Rattle.frames_view.proofs.Exact.{rest_shorter, front_spelled}
use Rattle.frames_view.proofs.Parts.{IsContent, content_bytes, IsExact-content}
use Rattle.definitions.proofs.Slices.{LeftAt-behind}
use Rattle.frames_view.proofs.Places.{left_behind, lent_behind}
use Rattle.frames_view.proofs.command.take_command.Goals as goal

pub before-content-requires : goal.before-content-requires
before-content-requires c =
    let one = c.in_ok-client in
    rest_shorter (IsContent c.args.clients) content_bytes (content_in c.args.clients)
    (IsExact-content c.args.clients (omega arith)) c.args.bytes.now
    (one.client, (one.seq, one.payload.now)) one.rest.now
    (λ i. omega (arith, c.type_inv.bytes i)) (sym c.in_ok-client.ensures.taken)

pub invariant_of-command : goal.invariant_of-command
invariant_of-command c =
    let one = c.in_ok-client in
    record {
      spelled =
          c.before-content.ensures.value
          ∙ front_spelled (IsContent c.args.clients) content_bytes (content_in c.args.clients)
          (IsExact-content c.args.clients (omega arith)) c.args.bytes.now
          (one.client, (one.seq, one.payload.now)) one.rest.now
          (λ i. omega (arith, c.type_inv.bytes i)) (sym c.in_ok-client.ensures.taken);
    }

pub returns-clause-lent : goal.returns-clause-lent
returns-clause-lent c =
    let one = c.in_ok-client in
    let two = c.in_ok-vector in
    let content = c.before-content in
    let place = 12 + length one.payload.now in
    let behind =
    left_behind c.args.bytes one.rest place one.ensures.lent.1 content.result.now content.ensures.value in (
      (
        content.ensures.lent,
        one.ensures.lent.0,
        lent_behind c.args.bytes one.rest place one.ensures.lent.1 content.result.now content.ensures.value
            two.vector two.ensures.lent.0,
      ),
      LeftAt-behind c.args.bytes one.rest two.rest (length content.result.now) (length two.vector.now)
          (length content.result.now + length two.vector.now) (omega arith) behind two.ensures.lent.1,
    )
