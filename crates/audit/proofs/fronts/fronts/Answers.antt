use Rattle.audit.proofs.Moves.{start, next, fewer, finish}
use Rattle.audit.proofs.fronts.fronts.Goals as goal

pub loop-mover-init : goal.loop-mover-init
loop-mover-init c = start c.args.replicas.now

pub loop-mover-smaller : goal.loop-mover-smaller
loop-mover-smaller c =
    fewer c.args.replicas.now c.loop-mover.fronts c.in-Some.mover c.loop-mover.invariant c.in-Some.ensures.1
    c.in-Some.ensures.0

pub loop-mover-preserved : goal.loop-mover-preserved
loop-mover-preserved c =
    next c.args.replicas.now c.loop-mover.fronts c.in-Some.mover c.loop-mover.invariant c.in-Some.ensures.1
    c.in-Some.ensures.0

pub returns : goal.returns
returns c =
    finish c.args.replicas.now c.loop-mover.fronts c.loop-mover.invariant c.in_default.ensures
