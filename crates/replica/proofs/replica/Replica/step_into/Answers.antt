use Rattle.std.proofs.Common.{ℕ, ◌≡◌, refl, ◌⊎◌, List, length, suc, sym, ap, ◌∙◌, subst, Result}
use Rattle.ids.specs.declared.fault.Fault.{Fault}
use Rattle.definitions.specs.Checks.{identity_of}
use Rattle.definitions.specs.Keyrings.{Keys}
use Rattle.definitions.specs.Chronicles.{Chronicle}
use Rattle.definitions.specs.Replicas.{Replica}
use Rattle.signed_frames.specs.Outs.{SentBytes}
use Rattle.replica.specs.Steps.{Held, Stepped, standing_of}
use Rattle.definitions.specs.Chronicles.{standing_blocks}
use Rattle.definitions.specs.Replicas.{held_history}
use Rattle.replica.specs.Kept.{Variables, AreCertified}
use Rattle.replica.specs.Advances.{IsWholeOf, standing_after}
use Rattle.replica.proofs.Logging.{logs-at}
use Rattle.replica.proofs.Sized.{certified-of}
use Rattle.admission.specs.Inputs.{input_of}
use Rattle.replica.proofs.WholeSteps.{goes-on, kept-from, stepped-from, stepped-not, grows-from}
use Rattle.replica.proofs.replica.Replica.step_into.Goals as goal

pub returns-then-not-is_running-clause-stepped : goal.returns-then-not-is_running-clause-stepped
returns-then-not-is_running-clause-stepped g c =
    let r = c.self.inside in
    stepped-not c.args.self.now.keys (input_of c.args.input) c.args.self.now.replica
    r.state.variables.chronicle r.standing (length r.executor.history)
    (ap (λ (h : Held). h.replica) (sym c.self.view_is))
    (sym c.if-not-is_running.ensures)

pub advance-taken-requires-clause-certified : goal.advance-taken-requires-clause-certified
advance-taken-requires-clause-certified g c =
    let r = c.self.inside in
    let whole = c.self.invariant.0 in
    subst (λ (v : Variables). AreCertified r.keyring.sizes v) (sym whole.state.same)
    (certified-of r.keyring r.state.variables.chronicle whole.sized)

pub invariant_of-self : goal.invariant_of-self
invariant_of-self g c =
    let r = c.self.inside in
    let c' = r.state.variables.chronicle in
    let on = goes-on c' r.standing (length r.executor.history) (sym c.if-not-is_running.ensures) in
    let t = c.advance-taken.ensures.advances c'
    (subst (λ (x : Replica). IsWholeOf r.keyring x r.state r.executor.history) on c.self.invariant.0) in (
      kept-from r.keyring (input_of c.args.input) c' c.advance-taken.result c.advance-taken.new.state
          c.advance-taken.new.executor.history _ t
          (subst (λ (z : ℕ). standing_of c.standing-self-inside.result
          (length c.advance-taken.new.executor.history)
          ≡ standing_after z c.advance-taken.result (length c.advance-taken.new.executor.history)) c.horizon.ensures
          (c.standing-self-inside.ensures (length c.advance-taken.new.executor.history))),
      c.advance-taken.ensures.room ∙ c.self.invariant.1,
    )

pub returns-clause-stepped : goal.returns-clause-stepped
returns-clause-stepped g c =
    let r = c.self.inside in
    let c' = r.state.variables.chronicle in
    let new : Replica = record {
      chronicle = c.advance-taken.new.state.variables.chronicle;
      standing = standing_of c.standing-self-inside.result (length c.advance-taken.new.executor.history);
    } in
    let on = goes-on c' r.standing (length r.executor.history) (sym c.if-not-is_running.ensures) in
    let t = c.advance-taken.ensures.advances c'
    (subst (λ (x : Replica). IsWholeOf r.keyring x r.state r.executor.history) on c.self.invariant.0) in
    let step = stepped-from r.keyring (input_of c.args.input) c.args.self.now.replica c'
    c.advance-taken.result c.advance-taken.new.state c.advance-taken.new.executor.history _
    (ap (λ (h : Held). h.replica) (sym c.self.view_is) ∙ on) t
    (subst (λ (z : ℕ). standing_of c.standing-self-inside.result
    (length c.advance-taken.new.executor.history)
    ≡ standing_after z c.advance-taken.result (length c.advance-taken.new.executor.history)) c.horizon.ensures
    (c.standing-self-inside.ensures (length c.advance-taken.new.executor.history))) in
    subst (λ (k : Keys). Stepped (identity_of k) (input_of c.args.input) c.args.self.now.replica
    c.into_answer.result new) (ap (λ (h : Held). h.keys) c.self.view_is)
    (subst (λ (x : Result (List SentBytes) Fault). Stepped (identity_of r.keyring) (input_of c.args.input)
    c.args.self.now.replica x new) (sym c.into_answer.ensures) step)

pub returns-clause-grows : goal.returns-clause-grows
returns-clause-grows g c =
    let r = c.self.inside in
    let c' = r.state.variables.chronicle in
    let on = goes-on c' r.standing (length r.executor.history) (sym c.if-not-is_running.ensures) in
    let t = c.advance-taken.ensures.advances c'
    (subst (λ (x : Replica). IsWholeOf r.keyring x r.state r.executor.history) on c.self.invariant.0) in
    subst (λ (x : Chronicle). (length c.advance-taken.new.state.variables.chronicle ≡ length x)
    ⊎ (length c.advance-taken.new.state.variables.chronicle ≡ suc (length x)))
    (ap (λ (h : Held). h.replica.chronicle) c.self.view_is)
    (grows-from r.keyring (input_of c.args.input) c' c.advance-taken.result c.advance-taken.new.state
    c.advance-taken.new.executor.history t)

pub returns-clause-logged : goal.returns-clause-logged
returns-clause-logged g c stays l =
    let r = c.self.inside in
    let new = c.advance-taken.new.state.variables in
    let same = ap (λ (h : Held). h.replica.chronicle) c.self.view_is in
    let old = logs-at (g.S.StepLog.holds c.args.log.now) (standing_blocks c.args.self.now.replica.chronicle)
    r.state.variables.stored c.args.self.now.replica.chronicle r.state.variables.chronicle
    (ap standing_blocks (sym same) ∙ sym (ap (λ (v : Variables). v.stored) c.self.invariant.0.state.same))
    (sym same) l in
    logs-at (g.S.StepLog.holds c.advance-taken.new.log) new.stored (standing_blocks new.chronicle)
    new.chronicle new.chronicle
    (ap (λ (v : Variables). v.stored) (invariant_of-self g c).0.state.same) refl
    (c.advance-taken.ensures.logged stays old)

pub returns-clause-written : goal.returns-clause-written
returns-clause-written g c k =
    subst (g.L.Ledger.holds c.advance-taken.new.ledger) (invariant_of-self g c).0.history
    (c.advance-taken.ensures.written
    (subst (g.L.Ledger.holds c.args.ledger.now)
    (sym (c.self.invariant.0.history ∙ ap (λ (h : Held). held_history h.replica) c.self.view_is)) k))
