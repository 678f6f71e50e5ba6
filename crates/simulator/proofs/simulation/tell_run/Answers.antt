use Rattle.simulator.proofs.Told.{run_told}
use Rattle.simulator.proofs.simulation.tell_run.Goals as goal

pub returns-clause-told : goal.returns-clause-told
returns-clause-told c =
    run_told c.text_of.result c.args.schedule c.in_ok-outcome.outcome c.text_of.ensures.told
    (rw (c.in_ok-world.ensures.made.setting_is, c.as_slice.ensures.value) at c.in_ok-outcome.ensures.ran)
