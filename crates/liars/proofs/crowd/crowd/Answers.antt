use Rattle.std.proofs.Common.{◌≡◌, ◌%◌, refl, ap, ◌∙◌}
use Rattle.ids.specs.Sizes.{replicas}
use Rattle.ids.specs.declared.kind.Kind.TheVariants as kind
use Rattle.frames_view.specs.Views.{core_of, certificate_of}
use Rattle.signed_frames.specs.declared.out.To.TheVariants as to
use Rattle.signed_frames.specs.declared.out.Sending.{Sending}
use Rattle.liars.specs.Lies.{crowd_to}
use Rattle.liars.proofs.Sent.{one_more}
use Rattle.liars.proofs.crowd.crowd.Goals as goal

pub loop-place-preserved : goal.loop-place-preserved
loop-place-preserved c =
    let core = core_of c.args.view.now.core in
    let certificate = certificate_of c.args.view.now.certificate in
    let sending : Sending = record {
      to = to.Replica (c.loop-place.place % c.from-n.result);
      kind = kind.Block;
      frame = c.in_ok-frame.frame;
    } in
    let size : c.from-n.result ≡ replicas c.args.keyring.now.sizes =
    c.from-n.ensures ∙ (c.n.ensures.count ∙ ap replicas c.config.ensures) in
    one_more (crowd_to c.args.keyring.now core certificate) c.loop-place.out.items c.push.new.self.items
    c.loop-place.place sending c.loop-place.invariant c.in_ok-push.ensures.items
    (rw (c.in_ok-frame.ensures.made, size) refl)
