-- The bytes so far.
use Rattle.std.proofs.Common.{◌≡◌, take}
use Rattle.asking.specs.Asking.{kept_for}
use Rattle.asking.proofs.questions.Questions.kept_for.Given as goal

abbrev pub invariant-loop-question : goal.invariant-loop-question
invariant-loop-question l = l.kept ≡ kept_for l.payer (take l.question-index l.question-items)
