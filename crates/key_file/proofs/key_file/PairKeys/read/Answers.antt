use Rattle.std.proofs.lemmas.Result.{err_from_is_err_and}
use Rattle.key_file.specs.KeyFile.{pairs}
use Rattle.key_file.proofs.Found.{all_kept}
use Rattle.key_file.proofs.key_file.PairKeys.read.Goals as goal

pub returns-in_err-held-clause-bad : goal.returns-in_err-held-clause-bad
returns-in_err-held-clause-bad c = λ same keys file.
    let gave = err_from_is_err_and c.from_residual.result c.from_residual.ensures.1 in
    c.in_err-held.ensures.bad (cc (gave.1, gave.2, same)) keys
    (rw (all_kept (pairs c.args.config)) file.0, file.1)

pub returns-clause-read : goal.returns-clause-read
returns-clause-read c =
    let file = c.in_ok-held.ensures.read in
    (c.in_ok-held.ensures.sizes, (rw (all_kept (pairs c.args.config)) at file.0, file.1))
