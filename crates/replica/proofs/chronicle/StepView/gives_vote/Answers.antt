use Rattle.std.proofs.Common.{◌≡◌, ◌<◌, ◌&&◌, Bool, drop, length, sym, ap, ◌∙◌}
use Rattle.std.specs.Str.{bytes_eq}
use Rattle.definitions.specs.Bytes.{Bytes}
use Rattle.definitions.specs.Digests.{digest, core_of}
use Rattle.definitions.specs.Audit.{gives_vote}
use Rattle.replica.specs.declared.stored.StoredStep.{StoredStep}
use Rattle.replica.specs.Entries.{NewEntry}
use Rattle.replica.specs.Replay.{is_new, step_of, newest}
use Rattle.replica.proofs.Lent.{newest-node, digest-core}
use Rattle.replica.proofs.chronicle.StepView.gives_vote.Goals as goal

pub returns-then-taken : goal.returns-then-taken
unfolding gives_vote
returns-then-taken c =
    let view = c.self.inside in
    let stored = drop view.newer view.tree.now.stored in
    let d = c.args.block.now in
    let l : view.newer < length view.tree.now.stored = c.self.invariant (ap is_new c.in-TookNew.is) in
    let own = newest-node view.newer view.tree.now.stored l c.nth_newest.result.now c.nth_newest.ensures in
    let its : c.digest.result ≡ digest (core_of (newest stored).branch) =
    c.digest.ensures ∙ own.named ∙ sym (digest-core (newest stored).branch) in
    c.eq.ensures
    ∙ ap (λ (x : Bytes). bytes_eq x d) its
    ∙ ap (λ (b : Bool). b && bytes_eq (digest (core_of (newest stored).branch)) d)
    (sym (sym (ap (λ (t : NewEntry). t.voted) c.taken.view_is) ∙ c.if-taken.true))
    ∙ ap (λ (s : StoredStep). gives_vote d (step_of s stored)) (sym c.in-TookNew.is)
    ∙ ap (gives_vote d) c.self.view_is
