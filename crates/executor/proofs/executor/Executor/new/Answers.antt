use Rattle.std.proofs.Common.{[], sym, subst}
use Rattle.definitions.specs.Cache.{Cache}
use Rattle.definitions.specs.Histories.{History}
use Rattle.executor.specs.State.{IsStateOf}
use Rattle.executor.proofs.State.{first-state}
use Rattle.executor.proofs.executor.Executor.new.Goals as goal

pub invariant_of-result : goal.invariant_of-result
invariant_of-result c =
    let rows = c.in_ok-new.field-0 in
    let most_keys = c.args.most_keys in
    subst (λ (h : History). IsStateOf (record { most_keys = most_keys; history = h }) c.in_ok-cache.cache rows)
    (sym c.new-3.ensures)
    (subst (λ (x : Cache). IsStateOf (record { most_keys = most_keys; history = [] }) x rows)
    (sym c.in_ok-cache.ensures.made) (first-state most_keys rows c.in_ok-new.ensures))
