use Rattle.std.proofs.Common.{◌≡◌, ◌==◌, not, filter, take}
use Rattle.healer.proofs.blocks.others.Given as goal

abbrev pub invariant-loop-replica : goal.invariant-loop-replica
invariant-loop-replica l = l.found.items ≡ filter (λ r. not (r == l.fn.leader)) (take l.replica-index l.correct)
