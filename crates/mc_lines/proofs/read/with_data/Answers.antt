use Rattle.std.proofs.Common.{◌+◌, ◌-◌, length, arith}
use Rattle.mc_lines.specs.Heads.{head_of}
use Rattle.definitions.specs.Requests.{data_field}
use Rattle.definitions.proofs.Slices.{LentAt-within, LentAt-same}
use Rattle.mc_lines.proofs.Places.{not_some}
use Rattle.mc_lines.proofs.read.with_data.Goals as goal

pub returns-in_default-clause-lent : goal.returns-in_default-clause-lent
returns-in_default-clause-lent c =
    λ source key rest. c.with.ensures.lent source c.args.start key
    (λ some. absurd (not_some (data_field (head_of c.args.head)) (cc) some))

pub returns-in-Ok-Some-clause-lent : goal.returns-in-Ok-Some-clause-lent
returns-in-Ok-Some-clause-lent c =
    let there = rw c.in-Ok-Some.field-0-is at c.in-Ok-Some.ensures.lent in
    λ source key rest. c.with-in-Ok-Some.ensures.lent source
    (c.args.start + length c.in-Ok-Some.stored.now + 2) key (λ _.
    LentAt-same source c.in-Ok-Some.stored (c.args.start + 0)
    (c.args.start + length c.in-Ok-Some.stored.now + 2 - 2 - length c.in-Ok-Some.stored.now) (omega arith)
    (LentAt-within source c.args.rest c.in-Ok-Some.stored c.args.start 0 rest there.1))
