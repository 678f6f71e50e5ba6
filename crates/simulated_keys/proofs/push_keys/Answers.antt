use Rattle.std.proofs.Common.{rules}
use Rattle.simulated_keys.proofs.KeyCounts.{one_more_key}
use Rattle.simulated_keys.proofs.push_keys.Goals as goal

pub loop-i-preserved : goal.loop-i-preserved
loop-i-preserved c = rw one_more_key (search (rules, c.loop-i.invariant, c.key_of.ensures, c.first.view_is))
