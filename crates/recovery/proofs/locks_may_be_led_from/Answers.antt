-- The lemma of this name.
use Rattle.recovery.proofs.Locks.{locks-led-from}
use Rattle.recovery.proofs.locks_may_be_led_from.Goals as goal

pub returns : goal.returns
returns c = locks-led-from
