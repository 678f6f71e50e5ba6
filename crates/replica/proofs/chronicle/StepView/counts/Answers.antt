use Rattle.std.proofs.Common.{◌<◌, drop, length, sym, ap, ◌∙◌}
use Rattle.definitions.specs.Frames.{Certificate}
use Rattle.definitions.specs.Audit.{counted_by, counted_for}
use Rattle.replica.specs.declared.stored.StoredStep.{StoredStep}
use Rattle.replica.specs.Entries.{NewEntry}
use Rattle.replica.specs.Replay.{is_new, step_of}
use Rattle.replica.proofs.Lent.{newest-node}
use Rattle.replica.proofs.chronicle.StepView.counts.Goals as goal

pub returns-in-TookNew : goal.returns-in-TookNew
unfolding counted_by counted_for
returns-in-TookNew c =
    let view = c.self.inside in
    let stored = drop view.newer view.tree.now.stored in
    let l : view.newer < length view.tree.now.stored = c.self.invariant (ap is_new c.in-TookNew.is) in
    let own = newest-node view.newer view.tree.now.stored l c.nth_newest.result.now c.nth_newest.ensures in (
      c.deref.ensures.value ∙ ap (λ (t : NewEntry). t.counted) c.taken.view_is
          ∙ ap (λ (s : StoredStep). counted_by (step_of s stored)) (sym c.in-TookNew.is)
          ∙ ap counted_by c.self.view_is,
      c.digest.ensures.value
          ∙ ap (λ (q : Certificate). q.digest) (c.certificate.ensures ∙ own.certificate)
          ∙ ap (λ (s : StoredStep). counted_for (step_of s stored)) (sym c.in-TookNew.is)
          ∙ ap counted_for c.self.view_is,
    )
