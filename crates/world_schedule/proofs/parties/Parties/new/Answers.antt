use Rattle.world_schedule.proofs.Seated.{seated-first}
use Rattle.world_schedule.proofs.parties.Parties.new.Goals as goal

pub returns-clause-made : goal.returns-clause-made
returns-clause-made c = seated-first _ _ _ c.in_ok-replicas.ensures.made c.in_ok-sessions.ensures.made
