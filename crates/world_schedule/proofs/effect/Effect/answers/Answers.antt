use Rattle.std.proofs.Common.{refl, sym, subst, None}
use Rattle.world_schedule.specs.Asking.{TellsAnswer}
use Rattle.world_schedule.proofs.Asking.{nothing-lacked}
use Rattle.world_schedule.proofs.effect.Effect.answers.Goals as goal

pub returns-in-Err : goal.returns-in-Err
returns-in-Err c = λ self.
    subst (λ a. TellsAnswer self None a c.only.result) (sym c.in-Err.is)
    (nothing-lacked self None _ _ refl (record {
      out = c.only.ensures.out;
      accepted = c.only.ensures.accepted;
      answer = c.only.ensures.answer;
    }))
