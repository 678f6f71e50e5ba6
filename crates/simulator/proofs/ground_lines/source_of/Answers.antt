use Rattle.std.proofs.Common.{lit<}
use Rattle.std.proofs.lemmas.Result.{err_from_is_err_and}
use Rattle.std.proofs.lemmas.Str.Pattern.{strip_prefix_char}
use Rattle.simulator.proofs.Sources.{no_source, no_number}
use Rattle.simulator.proofs.ground_lines.source_of.Goals as goal

pub returns-in_err-bytes : goal.returns-in_err-bytes
returns-in_err-bytes c =
    let p = err_from_is_err_and c.from_residual.result c.from_residual.ensures.1 in
    let front =
    strip_prefix_char 120 c.args.word.now c.strip_prefix.result c.strip_prefix.ensures.cases (lit< tt) in
    let whole = rw c.in-Some.is at front in
    rw (p.1, p.2) (no_source c.args.word.now c.in-Some.digits.now whole c.in_err-bytes.field-0.0
    c.in_err-bytes.ensures)

pub returns-in-None : goal.returns-in-None
returns-in-None c =
    let front =
    strip_prefix_char 120 c.args.word.now c.strip_prefix.result c.strip_prefix.ensures.cases (lit< tt) in
    let other = rw c.in_default.is at front in
    no_number c.args.word.now other c.in-None.ensures
