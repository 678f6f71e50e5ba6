use Rattle.audit.specs.Judged.{judged}
use Rattle.audit.specs.Fronts.{cut_of}
use Rattle.audit.proofs.Missing.{else-backed}
use Rattle.audit.proofs.fronts.missing.Goals as goal

pub returns-in-None : goal.returns-in-None
returns-in-None c =
    else-backed (judged c.args.replicas.now) (cut_of c.args.fronts.now) c.args.step.now
    c.missing_deed-in-None.result c.in-None.ensures c.missing_deed-in-None.ensures
