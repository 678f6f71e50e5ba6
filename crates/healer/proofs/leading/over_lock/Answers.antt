use Rattle.healer.proofs.Reached.{over-is}
use Rattle.healer.proofs.Turns.{if-ok-too}
use Rattle.healer.proofs.leading.over_lock.Goals as goal

pub returns-in-Some : goal.returns-in-Some
returns-in-Some c =
    if-ok-too _ _ c.found_over.result (λ x h hs w t l.
    over-is w c.args.leader c.in-Some.replica.now x.0 x.1 (c.in-Some.ensures hs w t l) h) c.found_over.ensures

pub returns-in-None : goal.returns-in-None
returns-in-None c = λ hs w t l. absurd (c.in-None.ensures hs w t l)
