use Rattle.healer.proofs.Locks.{locked-nobody}
use Rattle.healer.proofs.leading.highest_locked.Goals as goal

pub highest_from-requires : goal.highest_from-requires
highest_from-requires c = c.in-Some.ensures.value

pub returns-in-Some : goal.returns-in-Some
returns-in-Some c = c.highest_from.ensures

pub returns-in-None : goal.returns-in-None
returns-in-None c = λ hs w t x. locked-nobody w c.args.replicas.now c.in-None.ensures.value
