use Rattle.std.proofs.Common.{arith}
use Rattle.outbox.specs.Waiting.{empty}
use Rattle.outbox.proofs.Histories.{each_counted}
use Rattle.outbox.proofs.laws.an_outbox_counts_what_is_lost.Goals as goal

pub returns : goal.returns
returns c = λ most calls w lead few.
    let all = each_counted calls (empty most) w lead (omega (arith, few)) in
    omega (arith, all)
