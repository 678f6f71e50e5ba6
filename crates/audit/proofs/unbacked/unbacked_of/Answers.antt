use Rattle.std.proofs.Common.{sym}
use Rattle.audit.specs.Judged.{judged}
use Rattle.audit.specs.Fronts.{cut_of}
use Rattle.audit.proofs.Missing.{not-behind}
use Rattle.audit.proofs.unbacked.unbacked_of.Goals as goal

pub returns-in_err-missing : goal.returns-in_err-missing
returns-in_err-missing c =
    absurd (not-behind (judged c.args.replicas.now) (cut_of c.args.fronts.now) c.args.receiver
    c.in_ok-step.step c.requires (sym c.in_ok-step.ensures.step) c.in_err-missing.ensures)
