use Rattle.std.proofs.Common.{option_map}
use Rattle.std.proofs.lemmas.Result.{err_from_is_err_and}
use Rattle.simulator.proofs.Readings.{no_parties}
use Rattle.simulator.proofs.lines.heading_of.Goals as goal

pub returns-in_err-faulty : goal.returns-in_err-faulty
returns-in_err-faulty c =
    let p = err_from_is_err_and c.from_residual.result c.from_residual.ensures.1 in
    rw (p.1, p.2) (no_parties c.args.words.now c.in-Some.read.0 c.in-Some.read.1
    (option_map (λ rest. rest.now) c.in-Some.read.2) c.in-Some.ensures c.in_err-faulty.field-0.0
    c.in_err-faulty.ensures)
