use Rattle.std.proofs.Common.{◌≡◌, ◌-◌, ℕ, [], length, ap, sym, ◌∙◌, subst}
use Rattle.definitions.specs.Chronicles.{executed}
use Rattle.replica_rules.specs.declared.block_ref.BlockRef.{BlockRef}
use Rattle.replica.specs.Kept.{Variables, StateParts, waiting, tree_of}
use Rattle.mempool.specs.Pool.{left_after}
use Rattle.admission.specs.Inputs.{input_of}
use Rattle.replica.specs.Execution.{history_above, Work, work, stretch, IsCutShort}
use Rattle.replica.proofs.Logging.{LogsOf}
use Rattle.replica.proofs.Advancing.{history-going, sends-all, stops-short, refuses}
use Rattle.replica.proofs.replica.advance.Goals as goal

pub returns-in-Err-clause-advances : goal.returns-in-Err-clause-advances
returns-in-Err-clause-advances g c c' o =
    refuses c.args.keyring.now (input_of c.args.input) c' c.args.executor.now.history
    (history-going c.args.keyring.now c' c.args.state.now c.args.executor.now.history o) o.fit o.stored o.sized
    c.in-Err.ensures.fit c.in-Err.fault c.take.new.state (c.in-Err.ensures.steps c' o)

pub returns-in-Ok-execute-clause-advances : goal.returns-in-Ok-execute-clause-advances
returns-in-Ok-execute-clause-advances g c c' o =
    let last : BlockRef = c.take.new.state.variables.rules.executed in
    let from : c.executed-from.result.height ≡ length (executed c') =
    ap (λ (b : BlockRef). b.height) (c.executed-from.ensures
    ∙ ap (λ (k : StateParts). k.variables.rules.executed) c.state.view_is
    ∙ ap (λ (v : Variables). v.rules.executed) o.state.same) in
    sends-all c.args.keyring.now (input_of c.args.input) c' c.args.executor.now.history
    (history-going c.args.keyring.now c' c.args.state.now c.args.executor.now.history o) o.fit o.stored o.sized
    c.in-Ok.ensures.fit c.in-Ok.out c.execute.new.out c.take.new.state c.execute.new.state
    c.execute.new.executor.history (c.in-Ok.ensures.steps c' o)
    (subst (λ (n : ℕ). c.execute.new.executor.history
    ≡ history_above last.digest (tree_of c.take.new.state.variables) n (last.height - n)
    c.args.executor.now.history) from (ap (λ (w : Work). w.history) c.in-Ok-execute.ensures.executed))
    (subst (λ (n : ℕ). c.execute.new.state
    ≡ waiting (left_after
    (history_above last.digest (tree_of c.take.new.state.variables) n (last.height - n) [])
    c.take.new.state.pending) c.take.new.state) from
    (c.execute.ensures.rest
    ∙ ap (λ (w : Work). waiting w.waits c.take.new.state) c.in-Ok-execute.ensures.executed))
    c.in-Ok-execute.ensures.told

pub returns-in-Err-execute-clause-advances : goal.returns-in-Err-execute-clause-advances
returns-in-Err-execute-clause-advances g c c' o =
    let last : BlockRef = c.take.new.state.variables.rules.executed in
    let from : c.executed-from.result.height ≡ length (executed c') =
    ap (λ (b : BlockRef). b.height) (c.executed-from.ensures
    ∙ ap (λ (k : StateParts). k.variables.rules.executed) c.state.view_is
    ∙ ap (λ (v : Variables). v.rules.executed) o.state.same) in
    stops-short c.args.keyring.now (input_of c.args.input) c' c.args.executor.now.history
    (history-going c.args.keyring.now c' c.args.state.now c.args.executor.now.history o) o.fit o.stored o.sized
    c.in-Ok.ensures.fit c.in-Ok.out c.take.new.state c.execute.new.state c.execute.new.executor.history
    (c.in-Ok.ensures.steps c' o)
    c.execute.ensures.rest
    (subst (λ (n : ℕ). IsCutShort (stretch last.digest (tree_of c.take.new.state.variables) n last.height)
    (work c.args.executor.now.history c.take.new.state.pending)
    (work c.execute.new.executor.history c.execute.new.state.pending)) from
    c.in-Err-execute.ensures.cut)

pub returns-in-Ok-execute-clause-logged : goal.returns-in-Ok-execute-clause-logged
returns-in-Ok-execute-clause-logged g c stays l =
    subst (LogsOf (g.S.StepLog.holds c.take.new.log)) (sym c.execute.ensures.rest)
    (c.in-Ok.ensures.logged stays l)

pub returns-in-Err-execute-clause-logged : goal.returns-in-Err-execute-clause-logged
returns-in-Err-execute-clause-logged g c stays l =
    subst (LogsOf (g.S.StepLog.holds c.take.new.log)) (sym c.execute.ensures.rest)
    (c.in-Ok.ensures.logged stays l)
