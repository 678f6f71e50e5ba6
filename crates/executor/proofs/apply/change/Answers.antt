use Rattle.std.proofs.Common.{◌<◌, [], length, length-append, ap, arith}
use Rattle.std.proofs.lemmas.Result.{IfErr-at_err, MatchResult-at_ok}
use Rattle.mc_lines.specs.Meaning.{asked_of, reply_of}
use Rattle.definitions.specs.Replies.{Reply, reply_text}
use Rattle.definitions.specs.Cache.{apply}
use Rattle.executor.proofs.Texts.{left-same, on_err}
use Rattle.executor.proofs.apply.change.Goals as goal

pub returns-in_err-write_reply-clause-unchanged : goal.returns-in_err-write_reply-clause-unchanged
returns-in_err-write_reply-clause-unchanged c =
    let old = c.args.cache.now in
    let asked = asked_of c.args.request.now in
    let grown = IfErr-at_err _ c.in_err-write_reply.was c.write_reply.ensures.grown in
    let text = ap (λ (r : Reply). length (reply_text r)) c.in_ok-reply.ensures.told in
    let room = c.in_ok-told.ensures.exact in
    let empty = c.in_ok-told.ensures.len in
    let long : 22 < length (reply_text (apply old asked).1) = omega (arith, grown, text, room, empty) in
    on_err _ (left-same old _ asked c.requires c.in_ok-reply.ensures.left long)

pub returns-in_err-append-clause-unchanged : goal.returns-in_err-append-clause-unchanged
returns-in_err-append-clause-unchanged c =
    let old = c.args.cache.now in
    let asked = asked_of c.args.request.now in
    let grown = IfErr-at_err _ c.in_err-append.was c.append.ensures.grown in
    let text = ap (λ (r : Reply). length (reply_text r)) c.in_ok-reply.ensures.told in
    let items = MatchResult-at_ok _ _ _ c.in_ok-write_reply.was c.write_reply.ensures.appended in
    let none = c.in_ok-told.ensures.items in
    let room = c.in_ok-kept.ensures.exact in
    let empty = c.in_ok-kept.ensures.len in
    let long : 22 < length (reply_text (apply old asked).1) =
    omega (
      arith,
      grown,
      text,
      room,
      empty,
      ap length c.as_slice.ensures.value,
      ap length items,
      ap length none,
      length-append c.as_slice.result.now [],
      length-append c.in_ok-told.told.items (reply_text (reply_of c.in_ok-reply.reply)),
    ) in
    on_err _ (left-same old _ asked c.requires c.in_ok-reply.ensures.left long)
