use Rattle.world_schedule.proofs.Clients.{other-refused}
use Rattle.world_schedule.proofs.client.hear.Goals as goal

pub returns-in_default : goal.returns-in_default
returns-in_default c =
    other-refused _ _ _ _ c.in_default.not-Reply c.config.ensures c.in_ok-reply.ensures.value
