use Rattle.std.proofs.Common.{◌≡◌, refl, ap, sym, subst, List, Ok, ◌∙◌}
use Rattle.std.specs.Borrow.{Bor}
use Rattle.definitions.specs.Bytes.{Bytes}
use Rattle.definitions.specs.Keyrings.{Keys}
use Rattle.definitions.specs.Checks.{identity_of}
use Rattle.admission.specs.Inputs.{input_of}
use Rattle.replica.specs.Steps.{Held, Stepped}
use Rattle.world_schedule.specs.Turns.{TakesCopies}
use Rattle.world_schedule.proofs.Asking.{admitted-copies, copies-if}
use Rattle.world_schedule.proofs.replica_party.ReplicaParty.take_copies.Goals as goal

pub returns-in-Ok-clause-taken : goal.returns-in-Ok-clause-taken
returns-in-Ok-clause-taken c =
    let r = c.args.self.now in
    let k = c.verifying.result.now in
    let new = c.step-answer.new.self.replica in
    let same : k ≡ r.keys =
    c.verifying.ensures ∙ (c.self.invariant ∙ ap (λ (h : Held). h.keys) c.self.view_is) in
    let stepped : Stepped (identity_of r.keys) (input_of c.in-Ok.input) r.replica c.step-answer.result new =
    subst (λ (h : Held). Stepped (identity_of h.keys) (input_of c.in-Ok.input) h.replica c.step-answer.result
    new) c.self.view_is c.step-answer.ensures.stepped in
    let mine : Stepped (identity_of k) (input_of c.in-Ok.input) r.replica c.step-answer.result new =
    subst (λ (x : Keys). Stepped (identity_of x) (input_of c.in-Ok.input) r.replica c.step-answer.result new)
    (sym same) stepped in
    let taken : TakesCopies (identity_of k) c.as_slice.result.now r.replica new c.answers.result =
    copies-if k k refl r.replica new c.step-answer.result c.as_slice.result.now (Ok c.answers.result)
    (admitted-copies k c.as_slice.result.now r.replica new c.in-Ok.input c.step-answer.result
    c.in-Ok.ensures.admitted mine) (c.answers.ensures (identity_of k)) in (
      c.in_ok-frames.frames.items,
      c.in_ok-frames.ensures.made,
      subst (λ (x : Keys). TakesCopies (identity_of x) c.in_ok-frames.frames.items r.replica new
          c.answers.result) same
          (subst (λ (l : List (Bor Bytes)). TakesCopies (identity_of k) l r.replica new c.answers.result)
          c.as_slice.ensures.value taken),
    )
