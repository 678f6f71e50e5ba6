use Rattle.std.proofs.Common.{refl}
use Rattle.world_schedule.proofs.Rooms.{refused-parties}
use Rattle.world_schedule.proofs.world.World.with_keys.Goals as goal

pub returns-clause-refused : goal.returns-clause-refused
returns-clause-refused c =
    refused-parties c.new.result c.args.config c.in_ok-config.config c.args.faulty.items c.args.most_keys
    c.in_ok-config.ensures.made (c.in_ok-config.ensures.only.0 refl) c.new.ensures.refused
