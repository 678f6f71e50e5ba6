use Rattle.std.proofs.Common.{true, false, ◌≡◌, ap, ◌∙◌, Bor, List, ℕ}
use Rattle.std.specs.Prelude.{is_some, IsTrue}
use Rattle.definitions.specs.Canonical.{is_canonical}
use Rattle.definitions.specs.Requests.{canonical, IsRequest}
use Rattle.definitions.proofs.RequestTexts.{request_of-canonical}
use Rattle.mc_lines.specs.Meaning.{asked_of}
use Rattle.connection.proofs.Answering.{replies_refused, replies_answered}
use Rattle.connection.proofs.replies.reply_to_request.Goals as goal
use Rattle.connection.proofs.replies.reply_to_request.Goals.{then-noreply, else-noreply}

pub text-requires : goal.text-requires
text-requires g c =
    let is : IsRequest (asked_of c.args.request.now) false =
    (c.requires.0, (λ (none : IsTrue false). absurd cc), c.requires.2) in
    ap is_canonical c.fill.ensures ∙ ap is_some (request_of-canonical (asked_of c.args.request.now) is)

pub returns-after-noreply : goal.returns-after-noreply
returns-after-noreply g c =
    let payload : c.text.result ≡ canonical (asked_of c.args.request.now) =
    rw (c.text.ensures, c.fill.ensures) in
    elim c.if-noreply.branch [
      | then-noreply w ↦ replies_answered g.S.Service.answers c.args.service.now c.call.new.self
          (asked_of c.args.request.now) c.args.noreply c.text.result payload true
          c.call.new.text.items c.if-noreply.result.now c.in-Ok.ensures.answered w.if-noreply.true
          (ap (λ (b : Bor (List ℕ)). b.now) w.result-is)
      | else-noreply w ↦ replies_answered g.S.Service.answers c.args.service.now c.call.new.self
          (asked_of c.args.request.now) c.args.noreply c.text.result payload false
          c.call.new.text.items c.if-noreply.result.now c.in-Ok.ensures.answered w.if-noreply.false
          (ap (λ (b : Bor (List ℕ)). b.now) w.result-is ∙ w.as_slice.ensures.value)
    ]

pub returns-in-Err : goal.returns-in-Err
returns-in-Err g c =
    let payload : c.text.result ≡ canonical (asked_of c.args.request.now) =
    rw (c.text.ensures, c.fill.ensures) in
    replies_refused g.S.Service.answers c.args.service.now c.call.new.self (asked_of c.args.request.now)
    c.args.noreply c.text.result payload c.in-Err.ensures.refused
