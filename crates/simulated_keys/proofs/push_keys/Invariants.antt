-- The keys so far are appended.
use Rattle.std.proofs.Common.{◌≡◌, ◌++◌}
use Rattle.simulated_keys.specs.Keys.{keys_with}
use Rattle.simulated_keys.proofs.push_keys.Given as goal

abbrev pub invariant-loop-i : goal.invariant-loop-i
invariant-loop-i l = l.keys.items ≡ l.fn.keys.items ++ keys_with l.party l.fn.first l.i
