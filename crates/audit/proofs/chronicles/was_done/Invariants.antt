-- None of the steps before did it.
use Rattle.std.proofs.Common.{◌≡◌}
use Rattle.std.specs.List.{list_any}
use Rattle.audit.specs.Deeds.{does}
use Rattle.audit.proofs.chronicles.was_done.Given as goal

abbrev pub invariant-loop-step : goal.invariant-loop-step
invariant-loop-step l =
    (goal.iterator-loop-step).can_next l.step-iterator
    × (goal.iterator-loop-step).is_finite l.step-iterator
    × (list_any (does l.deed l.block) l.step-iterator ≡ list_any (does l.deed l.block) l.fn.chronicle)
