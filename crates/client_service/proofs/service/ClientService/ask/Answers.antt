use Rattle.std.proofs.Common.{◌∷◌, [], ◌++◌, None, subst, arith}
use Rattle.std.specs.List.{flat_map}
use Rattle.definitions.specs.Bytes.{Bytes}
use Rattle.client_service.specs.Links.{sent, Passes}
use Rattle.client_service.specs.Calls.{Try, try_traffic}
use Rattle.client_service.proofs.Waiting.{keeps}
use Rattle.client_service.proofs.Tries.{tried, one_try_more}
use Rattle.client_service.proofs.service.ClientService.ask.Goals as goal

pub send-requires : goal.send-requires
send-requires g c =
    (keeps g.L.Link.carries (flat_map (try_traffic c.args.self.now.session.frame) c.loop-left.invariant.0)
    (c.args.self.now.session, c.args.self.now.link) (c.loop-left.self.session, c.loop-left.self.link)
    c.loop-left.invariant.2).waits c.requires

pub returns-in-Some : goal.returns-in-Some
returns-in-Some g c =
    let same =
    (keeps g.L.Link.carries (flat_map (try_traffic c.args.self.now.session.frame) c.loop-left.invariant.0)
    (c.args.self.now.session, c.args.self.now.link) (c.loop-left.self.session, c.loop-left.self.link)
    c.loop-left.invariant.2).frame in (
      c.loop-left.invariant.0,
      (c.loop-left.self.session, c.loop-left.self.link),
      (c.send.new.self.session, c.send.new.self.link),
      c.loop-left.invariant.2,
      subst (λ (f : Bytes). Passes g.L.Link.carries (c.loop-left.self.session, c.loop-left.self.link) (sent f)
          None (c.send.new.self.session, c.send.new.self.link)) same c.send.ensures,
      c.in-Some.ensures,
    )

pub loop-left-preserved : goal.loop-left-preserved
loop-left-preserved g c =
    let same =
    (keeps g.L.Link.carries (flat_map (try_traffic c.args.self.now.session.frame) c.loop-left.invariant.0)
    (c.args.self.now.session, c.args.self.now.link) (c.loop-left.self.session, c.loop-left.self.link)
    c.loop-left.invariant.2).frame in
    let last : Try = record { heard = c.in_default.ensures.0; is_open = c.is_open.result } in (
      c.loop-left.invariant.0 ++ last ∷ [],
      one_try_more c.loop-left.left c.tries_left-left.result c.loop-left.invariant.0 last (omega arith)
          c.loop-left.invariant.1 c.tries_left-left.ensures,
      tried g.L.Link.carries (c.args.self.now.session, c.args.self.now.link)
          (c.loop-left.self.session, c.loop-left.self.link) (c.send.new.self.session, c.send.new.self.link)
          (c.listen.new.self.session, c.listen.new.self.link) c.loop-left.invariant.0
          c.args.self.now.session.frame c.is_open.result c.loop-left.invariant.2
          (subst (λ (f : Bytes). Passes g.L.Link.carries (c.loop-left.self.session, c.loop-left.self.link)
          (sent f) None (c.send.new.self.session, c.send.new.self.link)) same c.send.ensures)
          c.in_default.ensures c.is_open.ensures,
    )
