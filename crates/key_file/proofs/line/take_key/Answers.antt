use Rattle.key_file.proofs.Lines.{too_short, not_ended, no_digits}
use Rattle.key_file.proofs.line.take_key.Goals as goal

pub returns-then-text-lt64 : goal.returns-then-text-lt64
returns-then-text-lt64 c = too_short c.args.text.now c.if-text-lt64.true

pub returns-in_err-rest : goal.returns-in_err-rest
returns-in_err-rest c = rw c.from_residual.ensures
    (not_ended c.args.text.now c.split_at.result.1.now c.split_at.ensures.back c.in_err-rest.ensures)

pub returns-in_err-key : goal.returns-in_err-key
returns-in_err-key c = rw c.from_residual-in_err-key.ensures
    (no_digits c.args.text.now c.split_at.result.0.now c.split_at.ensures.front c.in_err-key.ensures)
