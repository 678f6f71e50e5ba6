use Rattle.std.proofs.Common.{◌^◌, ◌++◌, decimal, None}
use Rattle.deployment.specs.Fields.{IsBelow, numbered}
use Rattle.deployment.proofs.Reading.{at_behind, not_behind}
use Rattle.deployment.proofs.fields.number_of.Goals as goal

pub returns-in_err-behind_number : goal.returns-in_err-behind_number
returns-in_err-behind_number c =
    rw c.from_residual-in_err-behind_number.ensures
    (at_behind c.args.word.now c.args.text.now c.in_ok-rest.rest.now (λ n. numbered c.args.number ++ decimal n)
    (IsBelow (2 ^ 64)) None c.in_ok-rest.ensures
    (not_behind (numbered c.args.number) c.in_ok-rest.rest.now decimal (IsBelow (2 ^ 64))
    c.in_err-behind_number.ensures))

pub returns : goal.returns
returns c =
    at_behind c.args.word.now c.args.text.now c.in_ok-rest.rest.now (λ n. numbered c.args.number ++ decimal n)
    (IsBelow (2 ^ 64)) _ c.in_ok-rest.ensures
    (at_behind (numbered c.args.number) c.in_ok-rest.rest.now c.in_ok-behind_number.field-0.now decimal
    (IsBelow (2 ^ 64)) _ c.in_ok-behind_number.ensures c.number_line.ensures)
