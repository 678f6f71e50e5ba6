-- What was passed waits no longer.
use Rattle.std.proofs.Common.{◌≡◌, ◌++◌, map, take, drop}
use Rattle.asking.specs.Asking.{released}
use Rattle.asking.proofs.questions.Questions.release_all.Given as goal

abbrev pub invariant-loop-question : goal.invariant-loop-question
invariant-loop-question l =
    l.question-items
    ≡ map (released l.block) (take l.question-index l.initial.question-items)
    ++ drop l.question-index l.initial.question-items
