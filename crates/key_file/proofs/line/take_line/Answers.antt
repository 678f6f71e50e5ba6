use Rattle.std.proofs.Common.{◌++◌, None}
use Rattle.key_file.specs.KeyFile.{number_text, key_end}
use Rattle.key_file.proofs.Lines.{key_behind, no_key_behind}
use Rattle.key_file.proofs.line.take_line.Goals as goal

pub returns-in_err-rest-2 : goal.returns-in_err-rest-2
returns-in_err-rest-2 c =
    rw c.from_residual-in_err-rest-2.ensures
    (key_behind (number_text c.args.one) c.args.text.now c.in_ok-rest.rest.now
    (λ key. number_text c.args.other ++ key_end key) None c.in_ok-rest.ensures
    (no_key_behind (number_text c.args.other) c.in_ok-rest.rest.now key_end c.in_err-rest-2.ensures))

pub returns : goal.returns
returns c =
    key_behind (number_text c.args.one) c.args.text.now c.in_ok-rest.rest.now
    (λ key. number_text c.args.other ++ key_end key) _ c.in_ok-rest.ensures
    (key_behind (number_text c.args.other) c.in_ok-rest.rest.now c.in_ok-rest-2.rest.now key_end _
    c.in_ok-rest-2.ensures c.take_key.ensures)
