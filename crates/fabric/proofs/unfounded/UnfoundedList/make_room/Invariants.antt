use Rattle.fabric.specs.Proposed.{IsRest}
use Rattle.fabric.proofs.unfounded.UnfoundedList.make_room.Given as goal

abbrev pub invariant-loop : goal.invariant-loop
invariant-loop l = IsRest l.fn.self l.self
