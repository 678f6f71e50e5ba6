use Rattle.std.proofs.Common.{refl, arith, ◌<◌, ◌-◌, ◌^◌}
use Rattle.client_service.proofs.Tries.{listened_out, heard_more, few_came}
use Rattle.client_service.proofs.service.ClientService.listen.Goals as goal

pub returns-then-not-receive : goal.returns-then-not-receive
returns-then-not-receive g c =
    let below : c.loop-heard._heard < 2 ^ 64 - 1 = omega arith in
    listened_out g.L.Link.carries (c.args.self.now.session, c.args.self.now.link)
    (c.loop-heard.self.session, c.loop-heard.self.link) (c.loop-heard.self.session, c.receive.new.self)
    c.loop-heard.invariant.0
    (few_came c.loop-heard.invariant.0 c.loop-heard._heard c.loop-heard.invariant.1 below)
    c.loop-heard.invariant.2 c.if-not-receive.ensures refl

pub returns-in-Some : goal.returns-in-Some
returns-in-Some g c = (
  c.loop-heard.invariant.0,
  c.as_slice.result.now,
  (c.loop-heard.self.session, c.loop-heard.self.link),
  c.loop-heard.invariant.2,
  (rw c.hear.ensures.link (rw c.as_slice.ensures.value c.if-not-receive.ensures), c.in-Some.ensures.heard),
)

pub loop-heard-preserved : goal.loop-heard-preserved
loop-heard-preserved g c =
    heard_more g.L.Link.carries (c.args.self.now.session, c.args.self.now.link)
    (c.loop-heard.self.session, c.loop-heard.self.link) (c.hear.new.self.session, c.hear.new.self.link)
    c.loop-heard._heard c.loop-heard.invariant.0 c.as_slice.result.now c.loop-heard.invariant.1
    c.loop-heard.invariant.2 (
      rw c.hear.ensures.link (rw c.as_slice.ensures.value c.if-not-receive.ensures),
      c.in_default.ensures.heard,
    )
