use Rattle.std.proofs.Common.{sym, ap, subst, ◌∙◌}
use Rattle.definitions.specs.Histories.{History, is_fresh}
use Rattle.executor.specs.State.{Execution, IsStateOf}
use Rattle.executor.proofs.State.{stale-state}
use Rattle.executor.proofs.executor.Executor.enter.Goals as goal

pub invariant_of-self : goal.invariant_of-self
invariant_of-self g c =
    let x = c.self.inside in
    let e = c.args.entry.now in
    let stale = ap (λ (v : Execution). is_fresh e v.history) c.self.view_is ∙ c.requires in
    subst (λ (h : History). IsStateOf (record { most_keys = x.most_keys; history = h }) x.cache x.clients)
    (sym c.put.ensures)
    (stale-state _ _ _ c.self.invariant e stale)
