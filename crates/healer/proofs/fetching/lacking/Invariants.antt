use Rattle.std.proofs.Common.{◌≡◌, not, filter, take}
use Rattle.definitions.specs.States.{is_known}
use Rattle.recovery.specs.Correct.{chronicle_of}
use Rattle.healer.specs.Courses.{ToldWhere, AreCorrect}
use Rattle.healer.proofs.fetching.lacking.Given as goal

abbrev pub invariant-loop-replica : goal.invariant-loop-replica
invariant-loop-replica l =
    ToldWhere l.healer (AreCorrect l.correct)
    (λ w. l.found.items ≡ filter (λ r. not (is_known l.block (chronicle_of w r))) (take l.replica-index l.correct))
