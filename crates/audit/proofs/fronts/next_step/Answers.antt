use Rattle.std.proofs.Common.{◌∙◌, sym}
use Rattle.audit.specs.Judged.{judged}
use Rattle.audit.specs.Fronts.{cut_of}
use Rattle.audit.proofs.Moves.{no-steps}
use Rattle.audit.proofs.fronts.next_step.Goals as goal

pub returns-in_err-chronicle_of-clause-step : goal.returns-in_err-chronicle_of-clause-step
returns-in_err-chronicle_of-clause-step c =
    c.from_residual.ensures
    ∙ sym (no-steps (judged c.args.replicas.now) (cut_of c.args.fronts.now c.args.number) c.args.number
    c.in_err-chronicle_of.ensures)
