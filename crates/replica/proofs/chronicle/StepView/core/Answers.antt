use Rattle.std.proofs.Common.{◌<◌, Some, drop, length, sym, ap, ◌∙◌}
use Rattle.definitions.specs.Frames.{Core}
use Rattle.definitions.specs.Chronicles.{Step}
use Rattle.definitions.specs.Audit.{core_in}
use Rattle.replica.specs.declared.stored.StoredStep.{StoredStep}
use Rattle.replica.specs.Replay.{is_new, step_of}
use Rattle.replica.proofs.Lent.{newest-node}
use Rattle.replica.proofs.chronicle.StepView.core.Goals as goal

pub returns-in-TookNew : goal.returns-in-TookNew
unfolding core_in
returns-in-TookNew c =
    let view = c.self.inside in
    let l : view.newer < length view.tree.now.stored = c.self.invariant (ap is_new c.in-TookNew.is) in
    let own = newest-node view.newer view.tree.now.stored l c.nth_newest.result.now c.nth_newest.ensures in
    ap (λ (k : Core). Some k) (c.core.ensures ∙ own.core)
    ∙ ap (λ (s : StoredStep). core_in (Some (step_of s (drop view.newer view.tree.now.stored))))
    (sym c.in-TookNew.is)
    ∙ ap (λ (s : Step). core_in (Some s)) c.self.view_is
