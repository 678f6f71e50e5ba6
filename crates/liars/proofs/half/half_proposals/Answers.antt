use Rattle.std.proofs.Common.{refl}
use Rattle.ids.specs.declared.kind.Kind.TheVariants as kind
use Rattle.frames_view.specs.Views.{core_of, certificate_of}
use Rattle.signed_frames.specs.declared.out.To.TheVariants as to
use Rattle.signed_frames.specs.declared.out.Sending.{Sending}
use Rattle.liars.specs.Lies.{half_proposal_to}
use Rattle.liars.proofs.Sent.{one_more}
use Rattle.liars.proofs.half.half_proposals.Goals as goal

pub loop-number-preserved : goal.loop-number-preserved
loop-number-preserved c =
    let sending : Sending = record {
      to = to.Replica c.loop-number.number;
      kind = kind.Proposal;
      frame = c.in_ok-frame.frame;
    } in
    one_more (half_proposal_to c.args.keyring.now c.args.view.now.view (core_of c.args.view.now.core)
    (certificate_of c.args.view.now.certificate)) c.loop-number.out.items c.push.new.self.items
    c.loop-number.number sending c.loop-number.invariant c.in_ok-push.ensures.items
    (rw c.in_ok-frame.ensures.made refl)
