use Rattle.std.proofs.Common.{arith, sym, subst}
use Rattle.ids.specs.Sizes.{Sizes}
use Rattle.admission.specs.Inputs.{input_of}
use Rattle.world_schedule.specs.Turns.{IsMove}
use Rattle.world_schedule.proofs.Seated.{moves-if, seated-sizes}
use Rattle.world_schedule.proofs.parties.Parties.step.Goals as goal

pub step-requires : goal.step-requires
step-requires c =
    subst (λ (z : Sizes). IsMove z (input_of c.args.input))
    (sym (seated-sizes _ _ _ _ _ _ c.requires.seated (omega arith) c.requires.replica
    c.index_mut-replica.ensures.value)) c.requires.moves

pub returns-clause-moved : goal.returns-clause-moved
returns-clause-moved c = moves-if _ _ _ _ _ _ _ (omega arith) c.requires.replica
    c.index_mut-replica.ensures.value c.step.ensures.keys _ _ c.step.ensures.taken
