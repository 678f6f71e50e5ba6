use Rattle.std.proofs.Common.{◌≡◌, ◌++◌, drop}
use Rattle.std.specs.List.{flat_map}
use Rattle.simulator.specs.Lines.{event_text}
use Rattle.simulator.specs.Schedules.{ended}
use Rattle.simulator.proofs.written.put_events.Given as goal

abbrev pub invariant-loop-event : goal.invariant-loop-event
invariant-loop-event l =
    l.text.items ++ flat_map (λ e. ended (event_text e)) (drop l.event-index l.events)
    ≡ l.fn.text.items ++ flat_map (λ e. ended (event_text e)) l.events
