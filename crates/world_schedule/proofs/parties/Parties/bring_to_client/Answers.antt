use Rattle.std.proofs.Common.{arith}
use Rattle.world_schedule.proofs.Seated.{hears-at}
use Rattle.world_schedule.proofs.parties.Parties.bring_to_client.Goals as goal

pub returns : goal.returns
returns c = hears-at _ _ _ _ _ _ _ _ _ (omega (arith, c.requires.number)) c.holds.ensures.sizes_are
    (omega (arith, c.requires.number)) (omega (arith, c.requires.number, c.requires.party))
    c.index_mut-session.ensures.value c.receive.ensures
