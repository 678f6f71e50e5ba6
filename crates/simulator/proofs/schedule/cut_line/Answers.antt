use Rattle.simulator.proofs.Cuts.{cut_at, cut, uncut, all_behind}
use Rattle.simulator.proofs.schedule.cut_line.Goals as goal

pub returns-in_err-end-clause-first : goal.returns-in_err-end-clause-first
returns-in_err-end-clause-first c =
    rw c.from_residual.ensures (λ words rest plain begins. uncut c.args.text.now words rest
    (rw (← c.end_of_line.ensures) c.in_err-end.was) plain begins)

pub returns-clause-some : goal.returns-clause-some
returns-clause-some c =
    rw all_behind (cut c.args.text.now c.in_ok-end.end (rw (← c.end_of_line.ensures) c.in_ok-end.was))

pub returns-clause-first : goal.returns-clause-first
returns-clause-first c = rw all_behind (λ words rest plain begins. cut_at c.args.text.now words rest
    c.in_ok-end.end (rw (← c.end_of_line.ensures) c.in_ok-end.was) plain begins)
