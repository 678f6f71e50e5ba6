use Rattle.world_schedule.proofs.Telling.{told-if}
use Rattle.world_schedule.proofs.parties.Parties.into_histories.Goals as goal

pub returns-clause-told : goal.returns-clause-told
returns-clause-told c = told-if _ _ _ _ c.correct_histories.ensures.made
