use Rattle.std.proofs.Common.{ap, inl}
use Rattle.std.specs.Result.{result_ok}
use Rattle.client_accept.specs.Sessions.{Held}
use Rattle.client_service.proofs.Submitting.{submitted_for, begun_waits, asked, not_asked}
use Rattle.client_service.proofs.service.ClientService.submit_text.Goals as goal

pub ask-requires : goal.ask-requires
ask-requires g c =
    begun_waits c.args.self.now.session c.submit_text.new.self _ c.args.text.now c.in-Ok.ensures.state
    c.in-Ok.ensures.answer

pub returns-in-Ok : goal.returns-in-Ok
returns-in-Ok g c =
    asked g.L.Link.carries (c.args.self.now.session, c.args.self.now.link)
    (c.ask.new.self.session, c.ask.new.self.link) c.submit_text.new.self c.args.text.now
    (result_ok c.ask.result)
    (submitted_for c.args.self.now.session c.submit_text.new.self _ c.args.text.now c.in-Ok.ensures.canonical
    c.in-Ok.ensures.keys c.in-Ok.ensures.state c.in-Ok.ensures.answer)
    c.ask.ensures

pub returns-in-Err : goal.returns-in-Err
returns-in-Err g c =
    inl (ap (λ (s : Held). (s, c.args.self.now.link))
    (not_asked c.args.self.now.session c.submit_text.new.self _ c.args.text.now c.in-Err.fault
    c.in-Err.ensures.keys c.in-Err.ensures.state c.in-Err.ensures.answer))
