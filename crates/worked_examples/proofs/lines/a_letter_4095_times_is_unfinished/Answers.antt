-- No end stands among the letters.
use Rattle.std.proofs.Common.{ℕ, inl, arith}
use Rattle.std.proofs.lemmas.List.{length-replicate}
use Rattle.worked_examples.proofs.LineSteps.{letters_have_no_end}
use Rattle.worked_examples.proofs.lines.a_letter_4095_times_is_unfinished.Goals as goal

pub returns : goal.returns
returns c = let long = length-replicate {A = ℕ} 4095 97 in inl (omega (arith, long), letters_have_no_end 4095)
