use Rattle.audit.proofs.Missing.{no-core, own-core}
use Rattle.frames_view.specs.Views.{core_of}
use Rattle.std.proofs.Common.{◌∙◌}
use Rattle.audit.proofs.deeds.senders.Goals as goal

pub returns-in_err-core : goal.returns-in_err-core
returns-in_err-core c = rw c.from_residual.ensures (no-core c.args.step.now c.in_err-core.ensures)

pub returns : goal.returns
returns c = (
  c.senders-replicas.ensures,
  c.digest-block.ensures ∙ own-core c.args.step.now (core_of c.in_ok-core.field-0) c.in_ok-core.ensures,
)
