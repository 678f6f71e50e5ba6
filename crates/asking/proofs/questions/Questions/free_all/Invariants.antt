-- What was passed waits for nothing.
use Rattle.std.proofs.Common.{◌≡◌, ◌++◌, map, take, drop}
use Rattle.asking.specs.Asking.{freed}
use Rattle.asking.proofs.questions.Questions.free_all.Given as goal

abbrev pub invariant-loop-question : goal.invariant-loop-question
invariant-loop-question l =
    l.question-items
    ≡ map freed (take l.question-index l.initial.question-items)
    ++ drop l.question-index l.initial.question-items
