use Rattle.catching_up.specs.Told.{IsForemost}
use Rattle.catching_up.proofs.told.foremost.Given as goal

abbrev pub invariant-loop-height : goal.invariant-loop-height
invariant-loop-height l = IsForemost l.faults l.told l.height-index l.foremost
