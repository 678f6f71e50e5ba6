-- What was made and then the requests of the other commands are all that are to be made.
use Rattle.std.proofs.Common.{◌≡◌, ◌++◌, map}
use Rattle.std.specs.List.{flat_map, range_with_len}
use Rattle.ids.specs.Sizes.{replicas}
use Rattle.frames_view.specs.Views.{core_of, commands_left}
use Rattle.signed_frames.specs.Outs.{sent_of}
use Rattle.liars.specs.Lies.{spoilt_request_to, spoilt_requests}
use Rattle.liars.proofs.spoil.spoilt_requests.Given as goal

abbrev pub invariant-loop-command : goal.invariant-loop-command
invariant-loop-command l =
    map sent_of l.out.items ++ flat_map (λ c. map (spoilt_request_to l.config c)
    (range_with_len 0 (replicas l.config))) (commands_left l.command-iterator)
    ≡ spoilt_requests l.config (core_of l.core)
