use Rattle.std.proofs.Common.{ℕ, ◌∙◌, subst, OnErr}
use Rattle.replica_rules.specs.declared.block_ref.BlockRef.{BlockRef}
use Rattle.replica.specs.Kept.{StateParts, tree_of}
use Rattle.replica.specs.Execution.{work, stretch, IsCutShort}
use Rattle.replica.proofs.execution.execute.Goals as goal

pub returns-clause-cut : goal.returns-clause-cut
returns-clause-cut g c =
    let tree = c.state.inside.tree in
    let was = c.args.executor.now.history in
    let waits = c.state.inside.pool in
    let Cut : ℕ → BlockRef → Type 0 = λ from last.
    OnErr c.execute_all.result (IsCutShort (stretch last.digest tree from last.height) (work was waits)
    (work c.execute_all.new.executor.history c.execute_all.new.pool)) in
    subst (λ (s : StateParts). OnErr c.execute_all.result (IsCutShort
    (stretch s.variables.rules.executed.digest (tree_of s.variables) c.args.from
    s.variables.rules.executed.height) (work was s.pending)
    (work c.execute_all.new.executor.history c.execute_all.new.pool))) c.state.view_is
    (subst (λ (from : ℕ). Cut from c.state.inside.rules.executed) c.from.view_is
    (subst (Cut _) (c.last.view_is ∙ c.executed-last.ensures) c.execute_all.ensures.cut))
