use Rattle.std.proofs.Common.{None}
use Rattle.deployment.proofs.Reading.{number_read, no_number_line}
use Rattle.deployment.proofs.fields.number_line.Goals as goal

pub returns-in_err-line : goal.returns-in_err-line
returns-in_err-line c = rw c.from_residual.ensures (no_number_line c.args.text.now c.in_err-line.ensures)

pub returns-in_err-number : goal.returns-in_err-number
returns-in_err-number c =
    rw c.from_residual-in_err-number.ensures (number_read c.args.text.now c.in_ok-line.line.0.now
    c.in_ok-line.line.1.now None c.in_ok-line.ensures c.in_err-number.ensures)
