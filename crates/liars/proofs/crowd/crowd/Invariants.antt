-- The frames so far.
use Rattle.std.proofs.Common.{◌≡◌, map}
use Rattle.std.specs.List.{range_with_len}
use Rattle.frames_view.specs.Views.{core_of, certificate_of}
use Rattle.signed_frames.specs.Outs.{sent_of}
use Rattle.liars.specs.Lies.{crowd_to}
use Rattle.liars.proofs.crowd.crowd.Given as goal

abbrev pub invariant-loop-place : goal.invariant-loop-place
invariant-loop-place l = map sent_of l.out.items
    ≡ map (crowd_to l.keyring (core_of l.view.core) (certificate_of l.view.certificate))
    (range_with_len 0 l.place)
