use Rattle.std.proofs.Common.{refl}
use Rattle.simulator.proofs.Told.{world_made, why_no_world}
use Rattle.simulator.proofs.simulation.world_of.Goals as goal

pub returns-clause-made : goal.returns-clause-made
returns-clause-made c =
    world_made c.new.result c.args.heading c.in_ok-config.config c.in_ok-keyrings.keyrings.items
    c.in_ok-config.ensures.made c.in_ok-keyrings.ensures.made (c.in_ok-config.ensures.only.0 refl)
    c.new.ensures.made c.new.ensures.refused

pub returns-clause-refused : goal.returns-clause-refused
returns-clause-refused c =
    why_no_world c.new.result c.args.heading c.in_ok-config.config c.in_ok-config.ensures.made
    (c.in_ok-config.ensures.only.0 refl) c.new.ensures.refused
