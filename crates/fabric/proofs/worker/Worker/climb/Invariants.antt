use Rattle.fabric.specs.Shares.{HasGrown}
use Rattle.fabric.proofs.worker.Worker.climb.Given as goal

abbrev pub invariant-loop : goal.invariant-loop
invariant-loop g l = HasGrown l.fn.share l.share
