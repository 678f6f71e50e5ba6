use Rattle.std.proofs.Common.{◌≡◌, ◌<◌, drop, length, sym, ap, ◌∙◌}
use Rattle.std.specs.Str.{bytes_eq}
use Rattle.definitions.specs.Bytes.{Bytes}
use Rattle.definitions.specs.Digests.{digest, core_of}
use Rattle.definitions.specs.Audit.{takes}
use Rattle.replica.specs.declared.stored.StoredStep.{StoredStep}
use Rattle.replica.specs.Replay.{is_new, step_of, newest}
use Rattle.replica.proofs.Lent.{newest-node, digest-core}
use Rattle.replica.proofs.chronicle.StepView.takes.Goals as goal

pub returns-in-TookNew : goal.returns-in-TookNew
unfolding takes
returns-in-TookNew c =
    let view = c.self.inside in
    let stored = drop view.newer view.tree.now.stored in
    let d = c.args.block.now in
    let l : view.newer < length view.tree.now.stored = c.self.invariant (ap is_new c.in-TookNew.is) in
    let own = newest-node view.newer view.tree.now.stored l c.nth_newest.result.now c.nth_newest.ensures in
    let its : c.digest.result ≡ digest (core_of (newest stored).branch) =
    c.digest.ensures ∙ own.named ∙ sym (digest-core (newest stored).branch) in
    c.eq.ensures
    ∙ ap (λ (x : Bytes). bytes_eq x d) its
    ∙ ap (λ (s : StoredStep). takes d (step_of s stored)) (sym c.in-TookNew.is)
    ∙ ap (takes d) c.self.view_is
