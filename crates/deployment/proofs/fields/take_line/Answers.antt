use Rattle.std.proofs.Common.{◌+◌, sym}
use Rattle.deployment.proofs.Reading.{cut, uncut, all_behind}
use Rattle.deployment.proofs.fields.take_line.Goals as goal

pub returns-in_err-end : goal.returns-in_err-end
returns-in_err-end c = rw c.from_residual.ensures (uncut c.args.text.now (sym c.in_err-end.ensures))

pub returns : goal.returns
returns c =
    let line = cut c.args.text.now c.in_ok-end.end (sym c.in_ok-end.ensures) in
    (line.0, rw (all_behind c.args.text.now (c.in_ok-end.end + 1)) line.1)
