-- The keys so far are appended.
use Rattle.std.proofs.Common.{◌≡◌, ◌++◌}
use Rattle.key_file.specs.KeyFile.{keys_with}
use Rattle.key_file.proofs.held_keys.HeldKeys.push_keys.Given as goal

abbrev pub invariant-loop-i : goal.invariant-loop-i
invariant-loop-i l = l.out.items ≡ l.fn.out.items ++ keys_with l.self.all.keys l.party l.fn.first l.i
