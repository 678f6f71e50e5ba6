use Rattle.std.proofs.Common.{◌∙◌, sym}
use Rattle.signed_frames.specs.Clients.{client_of}
use Rattle.client_accept.proofs.Sessions.{heard, not_heard}
use Rattle.client_accept.proofs.session.Session.on_reply.Goals as goal

pub returns-in-Ok : goal.returns-in-Ok
returns-in-Ok c =
    let reply = c.args.reply.now in
    let done = heard (client_of c.args.self.now.keys) c.args.self.now reply.replica reply.client reply.seq
    reply.place reply.text.now reply.tag.now c.count.new.self c.count.result
    (sym c.admit.ensures ∙ c.in-Ok.is) c.count.ensures.receipt c.count.ensures.counted
    c.count.ensures.unchanged c.count.ensures.memory in
    record { state = done.0; answer = done.1 }

pub returns-in-Err : goal.returns-in-Err
returns-in-Err c =
    let reply = c.args.reply.now in
    let done = not_heard (client_of c.args.self.now.keys) c.args.self.now reply.replica reply.client
    reply.seq reply.place reply.text.now reply.tag.now c.in-Err.fault
    (sym c.admit.ensures ∙ c.in-Err.is) in
    record { state = done.0; answer = done.1 }
