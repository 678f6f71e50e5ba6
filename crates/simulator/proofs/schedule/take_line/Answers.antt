use Rattle.simulator.proofs.Cuts.{plain_is_utf8}
use Rattle.simulator.proofs.schedule.take_line.Goals as goal

pub returns-in-Err-clause-first : goal.returns-in-Err-clause-first
returns-in-Err-clause-first c = λ words rest plain begins.
    let same = c.in_ok-line.ensures.first words rest plain begins in
    c.in-Err.ensures.cases.0 (rw (← same.0) (plain_is_utf8 words plain))
