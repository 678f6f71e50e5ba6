use Rattle.std.proofs.Common.{◌∙◌, sym}
use Rattle.signed_frames.specs.Clients.{client_of}
use Rattle.client_accept.proofs.Sessions.{begins, not_begun, on_ok}
use Rattle.client_accept.proofs.session.Session.submit_text.Goals as goal

pub returns-in-Ok : goal.returns-in-Ok
returns-in-Ok c =
    let done = begins (client_of c.args.self.now.keys) c.args.text.now c.args.self.now c.send_text.new.self
    c.in-Ok.seq c.send_text.result (sym c.next_seq.ensures ∙ c.in-Ok.is) c.send_text.ensures.begun
    c.send_text.ensures.unchanged c.send_text.ensures.memory in
    record {
      canonical = on_ok c.send_text.result c.send_text.ensures.canonical;
      keys = done.0;
      state = done.1;
      answer = done.2;
    }

pub returns-in-Err : goal.returns-in-Err
returns-in-Err c =
    let done = not_begun (client_of c.args.self.now.keys) c.args.text.now c.args.self.now c.in-Err.fault
    (sym c.next_seq.ensures ∙ c.in-Err.is) in
    record { canonical = tt; keys = done.0; state = done.1; answer = done.2 }
