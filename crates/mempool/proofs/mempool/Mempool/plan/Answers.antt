use Rattle.std.proofs.Common.{◌≡◌, true, sym, ap, ◌∙◌, true≢false}
use Rattle.std.specs.List.{list_any}
use Rattle.definitions.specs.States.{is_same_request}
use Rattle.frames_view.specs.Views.{command_of}
use Rattle.mempool.specs.Pool.{is_of}
use Rattle.mempool.proofs.mempool.Mempool.plan.Goals as goal

pub returns-then-contains-clause-full : goal.returns-then-contains-clause-full
returns-then-contains-clause-full c =
    let r = command_of c.args.request.now in
    let known : list_any (is_same_request r) c.args.self.now ≡ true =
    sym (ap (λ k. list_any (is_of k c.seq.result) c.args.self.now) c.client.ensures
    ∙ ap (λ k. list_any (is_of r.client k) c.args.self.now) c.seq.ensures)
    ∙ sym c.contains.ensures ∙ c.if-contains.true in
    ((λ e. cc), (λ h. absurd (true≢false (sym known ∙ h.0))))
