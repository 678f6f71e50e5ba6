use Rattle.fabric.specs.Shares.{HasGrown}
use Rattle.fabric.proofs.worker.Worker.take_copies.Given as goal

abbrev pub invariant-loop-bytes : goal.invariant-loop-bytes
invariant-loop-bytes g l = HasGrown l.fn.share l.share
