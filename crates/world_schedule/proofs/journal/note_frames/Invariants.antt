use Rattle.std.proofs.Common.{◌≡◌, ◌++◌, map}
use Rattle.signed_frames.specs.Outs.{sent_of}
use Rattle.world_schedule.specs.Outcomes.{shown_frame}
use Rattle.world_schedule.proofs.journal.note_frames.Given as goal

abbrev pub invariant-loop-sending : goal.invariant-loop-sending
invariant-loop-sending l =
    map shown_frame l.frames.items
    ≡ map shown_frame l.initial.frames.items ++ map (λ o. (l.event, sent_of o)) l.yielded
