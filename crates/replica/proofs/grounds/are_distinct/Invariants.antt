-- What is left names nobody twice where all of them do not.
use Rattle.std.proofs.Common.{◌≡◌, length}
use Rattle.definitions.specs.Grounds.{are_distinct}
use Rattle.replica.proofs.grounds.are_distinct.Given as goal

abbrev pub invariant-loop-first : goal.invariant-loop-first
invariant-loop-first l = are_distinct l.rest ≡ are_distinct l.named

abbrev pub decreases-loop-first : goal.decreases-loop-first
decreases-loop-first l = length l.rest
