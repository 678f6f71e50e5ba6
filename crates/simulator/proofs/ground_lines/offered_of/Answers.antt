use Rattle.std.proofs.lemmas.Result.{err_from_is_err_and}
use Rattle.hex.specs.Hex.{encode_lower}
use Rattle.simulator.specs.Lines.{AreDigitsOfReplica, digits_of_replica}
use Rattle.simulator.proofs.Readings.{unread, none_offered}
use Rattle.simulator.proofs.ground_lines.offered_of.Goals as goal

pub returns-in_default : goal.returns-in_default
returns-in_default c = λ o fits spelled.
    unread _ digits_of_replica AreDigitsOfReplica c.args.fields.now c.digits_behind.result
    c.in_default.not-Some c.digits_behind.ensures (o.0, encode_lower o.1.items) fits.0 spelled

pub returns-in_err-bytes : goal.returns-in_err-bytes
returns-in_err-bytes c =
    let p = err_from_is_err_and c.from_residual.result c.from_residual.ensures.1 in
    let d = c.in-Some.ensures in
    rw (p.1, p.2) (none_offered c.args.fields.now c.in-Some.read.1.now c.in-Some.read.0 d.0 d.1
    c.in_err-bytes.field-0.0 c.in_err-bytes.ensures)
