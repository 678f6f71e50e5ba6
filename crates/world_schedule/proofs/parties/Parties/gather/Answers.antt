use Rattle.std.proofs.Common.{arith}
use Rattle.world_schedule.proofs.Seated.{gathers-if}
use Rattle.world_schedule.proofs.parties.Parties.gather.Goals as goal

pub returns-clause-gathered : goal.returns-clause-gathered
returns-clause-gathered c = gathers-if _ _ _ _ _ _ _ (omega arith) c.requires.replica
    c.index_mut-replica.ensures.value c.take_copies.ensures.keys _ _ _ c.take_copies.ensures.taken
