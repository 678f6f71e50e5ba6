use Rattle.ids.specs.declared.limits.TheConstants.{MOST_TEXT}
use Rattle.std.proofs.Common.{◌≡◌, ◌&&◌, true, Some, None, length, arith, sym, ap, ◌∙◌, cond, nat_lt, nat_le}
use Rattle.std.proofs.lemmas.Bool.{lt-ltb, le-leb}
use Rattle.ids.specs.declared.kind.Kind.TheVariants as kind
use Rattle.ids.specs.Sizes.{client_party}
use Rattle.definitions.specs.Frames.{spelling}
use Rattle.definitions.specs.Checks.{identity_of}
use Rattle.definitions.specs.Histories.{Answer}
use Rattle.definitions.specs.Sendings.{to_party, reply_to}
use Rattle.replica.specs.Steps.{bytes_of}
use Rattle.replica.proofs.execution.reply.Goals as goal

pub returns-clause-made : goal.returns-clause-made
unfolding reply_to
returns-clause-made c =
    let keys = c.args.keyring.now in
    let a : Answer = c.args.answer.now in
    let client : nat_lt a.client keys.sizes.clients ≡ true =
    lt-ltb a.client keys.sizes.clients (omega (
      arith,
      c.if-client-clients.false,
      c.client.view_is,
      c.client-client.ensures,
      c.clients.ensures,
      ap (λ z. z.clients) c.config.ensures,
    )) in
    let text : nat_le (length a.text) MOST_TEXT ≡ true =
    le-leb (length a.text) MOST_TEXT c.in-Some.ensures.short.1 in
    let same : record {
      client = c.client-client.result;
      seq = c.seq.result;
      place = c.place.result;
      text = c.in-Some.text;
    } ≡ a =
    λ i. record {
      client = c.client-client.ensures i;
      seq = c.seq.ensures i;
      place = c.place.ensures i;
      text = c.in-Some.ensures.short.0 i;
    } in
    (λ i. Some (
      to_party (client_party (c.client-client.ensures i)),
      kind.Reply,
      (c.in_ok-frame.ensures.made ∙ ap (λ (x : Answer). spelling (reply_to (identity_of keys) x).1) same)
          i,
    ))
    ∙ sym (λ i. cond (client i && text i) (Some (bytes_of (reply_to (identity_of keys) a))) None)
