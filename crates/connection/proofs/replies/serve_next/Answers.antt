use Rattle.line_feed.specs.Feeding.{item_of}
use Rattle.connection.specs.Serving.{state}
use Rattle.connection.proofs.Fronts.{front_one}
use Rattle.connection.proofs.replies.serve_next.Goals as goal

pub returns-in-None-end : goal.returns-in-None-end
returns-in-None-end g c =
    front_one g.S.Service.answers (state g.W.Write.contents c.args.service.now c.args.writer.now)
    (state g.W.Write.contents c.reply_to-reply.new.service c.write.new.self) c.args.feed.now
    c.next.follows.lender-at-none (item_of c.in-Some.item) c.reply_to-reply.result.text.now
    (rw c.in-Some.is at c.next.follows.holds-at-none) (rw c.in-None-end.is at c.reply_to-reply.ensures)
    c.in_ok-write-in-Some.ensures.written c.in_ok-write-in-Some.ensures.kept
