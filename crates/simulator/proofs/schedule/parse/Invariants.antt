-- The lines so far are the sizes and the events so far.
use Rattle.std.proofs.Common.{◌≡◌, ◌++◌, length}
use Rattle.std.specs.List.{All}
use Rattle.simulator.specs.Lines.{IsHeading, IsEvent}
use Rattle.simulator.specs.Schedules.{lines}
use Rattle.simulator.proofs.schedule.parse.Given as goal

abbrev pub invariant-loop-rest : goal.invariant-loop-rest
invariant-loop-rest l = record {
  heading : IsHeading l.heading;
  events : All IsEvent l.events.items;
  begins : l.text ≡ lines l.heading l.events.items ++ l.rest;
}

abbrev pub decreases-loop-rest : goal.decreases-loop-rest
decreases-loop-rest l = length l.rest
