use Rattle.std.proofs.Common.{arith}
use Rattle.world_schedule.proofs.Seated.{offers-if}
use Rattle.world_schedule.proofs.parties.Parties.offer.Goals as goal

pub returns-clause-offered : goal.returns-clause-offered
returns-clause-offered c = offers-if _ _ _ _ _ _ _ (omega arith) c.requires.replica
    c.index_mut-replica.ensures.value c.receive.ensures.keys _ _ c.receive.ensures.taken
