use Rattle.std.proofs.Common.{arith}
use Rattle.world_schedule.proofs.Seated.{submits-if}
use Rattle.world_schedule.proofs.parties.Parties.submit.Goals as goal

pub returns-clause-submitted : goal.returns-clause-submitted
returns-clause-submitted c =
    submits-if _ _ _ _ _ _ _ _ _ (omega arith) c.requires.client c.index_mut-session.ensures.value
    c.submit.ensures.submitted
