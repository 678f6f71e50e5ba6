use Rattle.std.proofs.Common.{ℕ, ap, ◌∙◌, subst, Option, IfOk}
use Rattle.definitions.specs.Bytes.{Bytes}
use Rattle.definitions.specs.Keyrings.{Keys}
use Rattle.definitions.specs.Checks.{identity_of}
use Rattle.admission.specs.Inputs.{input_of}
use Rattle.replica.specs.Steps.{Held}
use Rattle.world_schedule.specs.Asking.{TellsAnswer}
use Rattle.world_schedule.proofs.Asking.{moves-if, move-addressed}
use Rattle.world_schedule.proofs.replica_turn.step.Goals as goal

pub step-answer-requires : goal.step-answer-requires
step-answer-requires c = move-addressed c.args.replica.now.keys c.args.input c.requires

pub returns-clause-taken : goal.returns-clause-taken
returns-clause-taken c =
    moves-if c.replica.result.now.keys c.args.replica.now.keys
    (ap (λ (r : Held). identity_of r.keys) c.replica.ensures
    ∙ ap (λ (k : Keys). identity_of k) c.step-answer.ensures.keys)
    c.args.replica.now.replica c.step-answer.new.self.replica c.step-answer.result (input_of c.args.input)
    c.tell.result c.requires c.step-answer.ensures.answers
    (subst (λ (l : Option (ℕ × Bytes)). IfOk c.tell.result (λ e. TellsAnswer
    (identity_of c.replica.result.now.keys) l c.step-answer.result e)) c.asked_by-lack.ensures
    c.tell.ensures.told)
