use Rattle.std.proofs.Common.{◌^◌, decimal}
use Rattle.deployment.specs.Fields.{IsBelow}
use Rattle.deployment.proofs.Reading.{at_behind}
use Rattle.deployment.proofs.fields.number_at.Goals as goal

pub returns : goal.returns
returns c =
    at_behind c.args.word.now c.args.text.now c.in_ok-behind.field-0.now decimal (IsBelow (2 ^ 64)) _
    c.in_ok-behind.ensures c.number_line.ensures
