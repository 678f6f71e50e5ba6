use Rattle.simulator.proofs.Told.{healed_told}
use Rattle.simulator.proofs.healing.add_healing.Goals as goal

pub returns : goal.returns
returns c =
    healed_told c.put_events.result c.args.schedule c.in_ok-healed.healed.events.items
    c.in_ok-healed.healed.outcome c.args.text.now.items c.put_events.new.text.items
    (rw c.as_slice-2.ensures.value at c.put_events.ensures.put)
    (rw (c.in_ok-world.ensures.made.setting_is, c.as_slice.ensures.value) at c.in_ok-healed.ensures.ran)
    (rw (c.in_ok-world.ensures.made.setting_is, c.as_slice.ensures.value) at c.in_ok-healed.ensures.served)
