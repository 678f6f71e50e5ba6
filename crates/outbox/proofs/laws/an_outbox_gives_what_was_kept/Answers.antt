use Rattle.outbox.specs.Waiting.{empty}
use Rattle.outbox.proofs.Histories.{in_order}
use Rattle.outbox.proofs.laws.an_outbox_gives_what_was_kept.Goals as goal

pub returns : goal.returns
returns c = λ most calls w. in_order calls (empty most) w
