use Rattle.std.proofs.Common.{◌++◌, None}
use Rattle.definitions.specs.Bytes.{Bytes}
use Rattle.deployment.specs.Fields.{IsAddress, numbered}
use Rattle.deployment.proofs.Reading.{at_behind, not_behind}
use Rattle.deployment.proofs.fields.address_of.Goals as goal

pub returns-in_err-behind_number : goal.returns-in_err-behind_number
returns-in_err-behind_number c =
    rw c.from_residual-in_err-behind_number.ensures
    (at_behind c.args.word.now c.args.text.now c.in_ok-rest.rest.now (λ (a : Bytes). numbered c.args.number ++ a)
    IsAddress None c.in_ok-rest.ensures
    (not_behind (numbered c.args.number) c.in_ok-rest.rest.now (λ (a : Bytes). a) IsAddress
    c.in_err-behind_number.ensures))

pub returns : goal.returns
returns c =
    at_behind c.args.word.now c.args.text.now c.in_ok-rest.rest.now (λ (a : Bytes). numbered c.args.number ++ a)
    IsAddress _ c.in_ok-rest.ensures
    (at_behind (numbered c.args.number) c.in_ok-rest.rest.now c.in_ok-behind_number.field-0.now (λ (a : Bytes). a)
    IsAddress _ c.in_ok-behind_number.ensures c.address_line.ensures)
