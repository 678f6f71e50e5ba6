-- The frames so far.
use Rattle.std.proofs.Common.{◌≡◌, map}
use Rattle.std.specs.List.{range_with_len}
use Rattle.frames_view.specs.Views.{core_of, certificate_of}
use Rattle.signed_frames.specs.Outs.{sent_of}
use Rattle.liars.specs.Lies.{half_proposal_to}
use Rattle.liars.proofs.half.half_proposals.Given as goal

abbrev pub invariant-loop-number : goal.invariant-loop-number
invariant-loop-number l = map sent_of l.out.items
    ≡ map (half_proposal_to l.keyring l.view.view (core_of l.view.core) (certificate_of l.view.certificate))
    (range_with_len 0 l.number)
