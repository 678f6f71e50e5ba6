use Rattle.std.proofs.Common.{◌≡◌, length}
use Rattle.wires.specs.Receiving.{Passes}
use Rattle.wires.proofs.receiving.hand_on.Given as goal

abbrev pub invariant-loop-frame : goal.invariant-loop-frame
invariant-loop-frame g l = record {
  passes : Passes g.A.Arrivals.takes l.fn.from l.initial.rows l.rows l.initial.feed.held l.feed.held;
  longest : l.feed.longest ≡ l.initial.feed.longest;
  piece : l.feed.piece ≡ l.initial.feed.piece;
}

abbrev pub decreases-loop-frame : goal.decreases-loop-frame
decreases-loop-frame g l = length l.feed.held
