use Rattle.std.proofs.Common.{◌∙◌, sym}
use Rattle.definitions.specs.Requests.{canonical}
use Rattle.mc_lines.specs.Meaning.{asked_of}
use Rattle.signed_frames.specs.Clients.{client_of}
use Rattle.client_accept.proofs.Sessions.{submitted, not_submitted}
use Rattle.client_accept.proofs.session.Session.submit.Goals as goal

pub returns-in-Ok : goal.returns-in-Ok
returns-in-Ok c =
    let done = submitted (client_of c.args.self.now.keys) (canonical (asked_of c.args.request.now))
    c.args.self.now c.send.new.self c.in-Ok.seq c.send.result
    (sym c.next_seq.ensures ∙ c.in-Ok.is) c.send.ensures.made c.send.ensures.begun c.send.ensures.unchanged
    c.send.ensures.memory in
    record { state = done.0; answer = done.1 }

pub returns-in-Err : goal.returns-in-Err
returns-in-Err c =
    let done = not_submitted (client_of c.args.self.now.keys) (canonical (asked_of c.args.request.now))
    c.args.self.now c.in-Err.fault (sym c.next_seq.ensures ∙ c.in-Err.is) in
    record { state = done.0; answer = done.1 }
