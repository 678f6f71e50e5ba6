-- The least of those so far.
use Rattle.std.proofs.Common.{◌≡◌, fold, take}
use Rattle.clock.specs.Pruning as pruning
use Rattle.clock.proofs.forgetting.slowest.Given as goal

abbrev pub invariant-loop-height : goal.invariant-loop-height
invariant-loop-height l =
    l.least ≡ fold (pruning.slower l.pulse.horizon) l.pulse.height (take l.height-index l.shown)
