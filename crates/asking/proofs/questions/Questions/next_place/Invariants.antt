-- The first of the questions so far.
use Rattle.asking.specs.Choosing.{IsFirstOf}
use Rattle.asking.proofs.questions.Questions.next_place.Given as goal

abbrev pub invariant-loop-place : goal.invariant-loop-place
invariant-loop-place l = IsFirstOf l.self l.now l.place l.first
