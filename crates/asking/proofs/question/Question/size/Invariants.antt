-- The bytes of the copies so far.
use Rattle.std.proofs.Common.{◌≡◌, take}
use Rattle.asking.specs.Asking.{size_of}
use Rattle.asking.proofs.question.Question.size.Given as goal

abbrev pub invariant-loop-copy : goal.invariant-loop-copy
invariant-loop-copy l = l.size ≡ size_of (take l.copy-index l.copy-items)
