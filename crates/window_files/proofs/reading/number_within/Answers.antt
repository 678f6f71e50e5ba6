use Rattle.std.proofs.Common.{arith}
use Rattle.std.proofs.lemmas.Bool.{false≢true}
use Rattle.window_files.proofs.Heads.{out_of_limits, not_there}
use Rattle.window_files.proofs.reading.number_within.Goals as goal

pub returns-in_err-line : goal.returns-in_err-line
returns-in_err-line c = rw c.from_residual.ensures
    (not_there c.args.word.now c.args.text.now c.args.least c.args.most (omega arith) c.in_err-line.ensures)

pub returns-then-not-is_within : goal.returns-then-not-is_within
returns-then-not-is_within c =
    out_of_limits c.args.word.now c.args.text.now c.in_ok-line.line.1.now c.args.least c.args.most
    c.in_ok-line.line.0 (omega arith) c.in_ok-line.ensures
    (λ fits. false≢true (c.if-not-is_within.ensures.1 fits))
