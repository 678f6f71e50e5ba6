use Rattle.std.proofs.Common.{◌≡◌, ◌++◌, take}
use Rattle.replica.specs.Execution.{told}
use Rattle.replica.proofs.execution.tell.Given as goal

abbrev pub invariant-loop-answer : goal.invariant-loop-answer
invariant-loop-answer l = l.out ≡ l.initial.out ++ told l.teller.keyring.now (take l.answer-index l.answers)
