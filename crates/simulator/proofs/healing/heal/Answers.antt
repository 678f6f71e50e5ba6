use Rattle.simulator.proofs.Told.{healed_from, on_ok}
use Rattle.simulator.proofs.healing.heal.Goals as goal

pub returns-clause-ok : goal.returns-clause-ok
returns-clause-ok g c =
    on_ok c.write_all-written.result c.map_err.result c.map_err.ensures.variant
    c.write_all-written.ensures.bytes
    (λ written.
    healed_from (g.R.Read.remaining c.args.reader.now) (g.W.Write.contents c.args.writer.now)
    (g.W.Write.contents c.write_all-written.new.self)
    c.in_ok-text.text.items c.add_healing.new.text.items c.in_ok-schedule.schedule
    c.in_ok-text.ensures.read
    (rw (← c.deref.ensures.value) c.in_ok-schedule.ensures.ok) c.in_ok-add_healing.ensures
    (rw c.deref-2.ensures.value at written))
