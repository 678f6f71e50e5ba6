-- The requests so far, behind those that were there.
use Rattle.std.proofs.Common.{◌≡◌, ◌++◌, map}
use Rattle.std.specs.List.{range_with_len}
use Rattle.frames_view.specs.Views.{command_of}
use Rattle.signed_frames.specs.Outs.{sent_of}
use Rattle.liars.specs.Lies.{spoilt_request_to}
use Rattle.liars.proofs.spoil.push_requests.Given as goal

abbrev pub invariant-loop-number : goal.invariant-loop-number
invariant-loop-number l = map sent_of l.out.items ≡ map sent_of l.fn.out.items
    ++ map (spoilt_request_to l.config (command_of l.command)) (range_with_len 0 l.number)
