use Rattle.world_schedule.proofs.Runs.{first-at}
use Rattle.world_schedule.proofs.running.State.new.Goals as goal

pub returns-clause-made : goal.returns-clause-made
returns-clause-made c = first-at _ _ c.in_ok-parties.ensures.made c.new-journal.ensures.frames
    c.new-journal.ensures.answers c.new-journal.ensures.receipts
