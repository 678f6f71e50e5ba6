use Rattle.std.proofs.Common.{◌≡◌, refl, ap, sym, subst, Err, ◌∙◌}
use Rattle.definitions.specs.Keyrings.{Keys}
use Rattle.definitions.specs.Checks.{identity_of}
use Rattle.admission.specs.Inputs.{input_of}
use Rattle.replica.specs.Steps.{Held, Stepped}
use Rattle.world_schedule.specs.Asking.{Answers, checks_of}
use Rattle.world_schedule.proofs.Asking.{refused-answers, admitted-answers}
use Rattle.world_schedule.proofs.replica_party.ReplicaParty.take.Goals as goal

pub returns-in-Ok-clause-taken : goal.returns-in-Ok-clause-taken
returns-in-Ok-clause-taken c =
    let r = c.args.self.now in
    let same : c.verifying.result.now ≡ r.keys =
    c.verifying.ensures ∙ (c.self.invariant ∙ ap (λ (h : Held). h.keys) c.self.view_is) in
    let stepped : Stepped (identity_of r.keys) (input_of c.in-Ok.input) r.replica c.step.result
    c.step.new.self.replica =
    subst (λ (h : Held). Stepped (identity_of h.keys) (input_of c.in-Ok.input) h.replica c.step.result
    c.step.new.self.replica) c.self.view_is c.step.ensures.stepped in
    subst (λ (k : Keys). Answers (checks_of c.args.way) (identity_of k) c.args.bytes.now r.replica c.step.new.self.replica
    c.step.result) same
    (admitted-answers (checks_of c.args.way) c.verifying.result.now c.args.bytes r.replica c.step.new.self.replica c.in-Ok.input
    c.step.result c.in-Ok.ensures.admitted
    (subst (λ (k : Keys). Stepped (identity_of k) (input_of c.in-Ok.input) r.replica c.step.result
    c.step.new.self.replica) (sym same) stepped))

pub returns-in-Err-clause-taken : goal.returns-in-Err-clause-taken
returns-in-Err-clause-taken c =
    let r = c.args.self.now in
    subst (λ (k : Keys). Answers (checks_of c.args.way) (identity_of k) c.args.bytes.now r.replica r.replica (Err c.in-Err.fault))
    (c.verifying.ensures ∙ (c.self.invariant ∙ ap (λ (h : Held). h.keys) c.self.view_is))
    (refused-answers (checks_of c.args.way) _ _ _ _ _ c.in-Err.ensures.admitted refl)
