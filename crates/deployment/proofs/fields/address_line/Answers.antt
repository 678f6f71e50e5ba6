use Rattle.std.proofs.Common.{◌≡◌, false, rules}
use Rattle.deployment.specs.Fields.{is_address}
use Rattle.deployment.proofs.Reading.{no_address, no_address_line}
use Rattle.deployment.proofs.fields.address_line.Goals as goal

pub returns-in_err-line : goal.returns-in_err-line
returns-in_err-line c = rw c.from_residual.ensures (no_address_line c.args.text.now c.in_err-line.ensures)

pub returns-else-is_address : goal.returns-else-is_address
returns-else-is_address c =
    let not_one : is_address c.in_ok-line.line.0.now ≡ false = search rules in
    no_address c.args.text.now c.in_ok-line.line.0.now c.in_ok-line.line.1.now c.in_ok-line.ensures not_one
