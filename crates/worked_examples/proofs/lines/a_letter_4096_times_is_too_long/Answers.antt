-- No end stands among the letters.
use Rattle.std.proofs.Common.{replicate, refl, sym, subst, ℕ, arith}
use Rattle.std.proofs.lemmas.List.{take_all, length-replicate}
use Rattle.definitions.specs.Items.{HasNoEnd}
use Rattle.worked_examples.proofs.LineSteps.{letters_have_no_end}
use Rattle.worked_examples.proofs.lines.a_letter_4096_times_is_too_long.Goals as goal

pub returns : goal.returns
returns c =
    let long =
    length-replicate {A = ℕ} 4096 97 in (
      omega (arith, long),
      subst HasNoEnd (sym (take_all 4096 (replicate 4096 97) (omega (arith, long))))
          (letters_have_no_end 4096),
      refl,
    )
