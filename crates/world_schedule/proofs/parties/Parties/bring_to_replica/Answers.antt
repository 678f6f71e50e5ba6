use Rattle.std.proofs.Common.{arith}
use Rattle.world_schedule.proofs.Seated.{brings-if}
use Rattle.world_schedule.proofs.parties.Parties.bring_to_replica.Goals as goal

pub returns-clause-brought : goal.returns-clause-brought
returns-clause-brought c = brings-if _ _ _ _ _ _ _ (omega arith) c.requires.replica
    c.index_mut-replica.ensures.value c.receive.ensures.keys _ _ c.receive.ensures.taken
