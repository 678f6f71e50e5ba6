use Rattle.std.proofs.Common.{map}
use Rattle.ids.specs.declared.kind.Kind.TheVariants as kind
use Rattle.definitions.specs.Sendings.{to_party}
use Rattle.frames_view.specs.Views.{command_of}
use Rattle.signed_frames.specs.Outs.{sent_of}
use Rattle.signed_frames.specs.declared.out.To.TheVariants as to
use Rattle.signed_frames.specs.declared.out.Sending.{Sending}
use Rattle.liars.specs.Lies.{spoilt_request_to}
use Rattle.liars.proofs.Sent.{one_more_behind}
use Rattle.liars.proofs.spoil.push_requests.Goals as goal

pub loop-number-preserved : goal.loop-number-preserved
loop-number-preserved c =
    let sending : Sending = record {
      to = to.Replica c.loop-number.number;
      kind = kind.Request;
      frame = c.in_ok-frame.frame;
    } in
    one_more_behind (spoilt_request_to c.args.config (command_of c.args.command.now)) (map sent_of c.args.out.now.items)
    c.loop-number.out.items c.push.new.self.items c.loop-number.number sending c.loop-number.invariant
    c.in_ok-push.ensures.items (λ i. (to_party c.loop-number.number, kind.Request, c.in_ok-frame.ensures.made i))
