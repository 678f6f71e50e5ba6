-- The frames so far, and the next block.
use Rattle.std.proofs.Common.{◌≡◌, map}
use Rattle.std.specs.List.{range_with_len}
use Rattle.definitions.specs.Frames.{core_bytes}
use Rattle.frames_view.specs.Views.{core_of, certificate_of}
use Rattle.signed_frames.specs.Outs.{sent_of}
use Rattle.liars.specs.Lies.{climb_to_all, climbing}
use Rattle.liars.proofs.climb.climb.Given as goal

abbrev pub invariant-loop : goal.invariant-loop
invariant-loop l =
    let core = core_of l.view.core in
    (map sent_of l.out.items
    ≡ map (climb_to_all l.keyring l.view.view core (certificate_of l.view.certificate)) (range_with_len 0 l.counter))
    × (l.height ≡ (climbing core l.counter).height)
    × (l.own.items ≡ core_bytes (climbing core l.counter))
