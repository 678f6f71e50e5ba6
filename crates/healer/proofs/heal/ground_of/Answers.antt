use Rattle.std.proofs.Common.{sym}
use Rattle.recovery.specs.Healing.{over_lock}
use Rattle.healer.proofs.heal.ground_of.Goals as goal

pub returns : goal.returns
returns c = λ hs w t l.
    let h = c.in_ok-over.ensures hs w t l in
    record {
      locked = c.lock_of-lock.ensures hs w t l;
      high = sym h.high;
      below = c.in_ok-digests.ensures hs w t l (over_lock c.args.leader w) h;
    }
