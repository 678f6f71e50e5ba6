use Rattle.std.proofs.Common.{arith}
use Rattle.outbox.specs.Waiting.{empty}
use Rattle.outbox.proofs.Histories.{within_bound}
use Rattle.outbox.proofs.laws.an_outbox_stays_within_its_bound.Goals as goal

pub returns : goal.returns
returns c = λ most calls w lead. within_bound calls (empty most) w lead (omega arith)
