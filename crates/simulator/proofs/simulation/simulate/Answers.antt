use Rattle.std.proofs.lemmas.Result.{err_from_is_err_and}
use Rattle.simulator.proofs.Told.{why_no_schedule, why_no_run, told_of, on_ok}
use Rattle.simulator.proofs.simulation.simulate.Goals as goal

pub returns-in_err-schedule-clause-refused : goal.returns-in_err-schedule-clause-refused
returns-in_err-schedule-clause-refused g c =
    let p = err_from_is_err_and c.from_residual-in_err-schedule.result
    c.from_residual-in_err-schedule.ensures.1 in
    rw (p.1, p.2)
    (why_no_schedule (g.R.Read.remaining c.args.reader.now) c.in_ok-read_all.field-0.items
    c.in_err-schedule.field-0.0 c.in_ok-read_all.ensures.read
    (rw (← c.deref.ensures.value) c.in_err-schedule.ensures.bad))

pub returns-in_err-text-clause-refused : goal.returns-in_err-text-clause-refused
returns-in_err-text-clause-refused g c =
    let p = err_from_is_err_and c.from_residual-in_err-text.result c.from_residual-in_err-text.ensures.1 in
    rw (p.1, p.2)
    (why_no_run (g.R.Read.remaining c.args.reader.now) c.in_ok-read_all.field-0.items
    c.in_ok-schedule.schedule c.in_err-text.field-0.0 c.in_ok-read_all.ensures.read
    (rw (← c.deref.ensures.value) c.in_ok-schedule.ensures.ok) c.in_err-text.ensures.refused)

pub returns-clause-ok : goal.returns-clause-ok
returns-clause-ok g c =
    on_ok c.write_all-written.result c.map_err.result c.map_err.ensures.variant
    c.write_all-written.ensures.bytes
    (λ written.
    told_of (g.R.Read.remaining c.args.reader.now) (g.W.Write.contents c.args.writer.now)
    (g.W.Write.contents c.write_all-written.new.self)
    c.in_ok-read_all.field-0.items c.in_ok-text.text.items c.in_ok-schedule.schedule
    c.in_ok-read_all.ensures.read
    (rw (← c.deref.ensures.value) c.in_ok-schedule.ensures.ok) c.in_ok-text.ensures.told
    (rw c.deref-2.ensures.value at written))
