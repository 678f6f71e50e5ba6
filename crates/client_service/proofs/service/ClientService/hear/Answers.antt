use Rattle.std.proofs.Common.{◌≡◌, ◌==◌, ◌&&◌, false, refl, subst, Some}
use Rattle.definitions.specs.FrameLimits.{IsReadAs}
use Rattle.frames_view.specs.Views.{frame_of}
use Rattle.frames_view.specs.declared.frame_views.Frame as views
use Rattle.client_service.proofs.Hearing.{other_passed, late_passed}
use Rattle.client_service.proofs.service.ClientService.hear.Goals as goal

pub returns-in_default-frame : goal.returns-in_default-frame
returns-in_default-frame g c = record {
  heard =
      other_passed c.args.self.now.session c.args.bytes.now c.config-config.result c.in-Ok.frame
      c.in_default-frame.not-Reply c.config-config.ensures c.in-Ok.ensures.value;
  link = refl;
}

pub returns-then-not-awaits-clause-heard : goal.returns-then-not-awaits-clause-heard
returns-then-not-awaits-clause-heard g c =
    let asks = c.awaits.ensures in
    let seq = c.seq.ensures in
    let not = c.if-not-awaits.true in
    let late : (c.args.self.now.session.session.waiting
    && (c.in-Reply.reply.seq == c.args.self.now.session.session.used)) ≡ false = cc in
    late_passed c.args.self.now.session c.args.bytes.now c.config-config.result c.in-Reply.reply late
    c.config-config.ensures
    (subst (λ (f : views.Frame). IsReadAs c.config-config.result c.args.bytes.now (Some (frame_of f)))
    c.in-Reply.is c.in-Ok.ensures.value)
