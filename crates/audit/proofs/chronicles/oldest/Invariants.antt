-- The oldest so many of what is left are those of all.
use Rattle.std.proofs.Common.{◌≡◌, length}
use Rattle.definitions.specs.Lists.{beginning}
use Rattle.audit.proofs.chronicles.oldest.Given as goal

abbrev pub invariant-loop-rest : goal.invariant-loop-rest
invariant-loop-rest l = beginning l.count l.rest ≡ beginning l.count l.fn.chronicle

abbrev pub decreases-loop-rest : goal.decreases-loop-rest
decreases-loop-rest l = length l.rest
