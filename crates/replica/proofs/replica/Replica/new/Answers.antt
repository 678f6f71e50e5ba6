use Rattle.std.proofs.Common.{◌≡◌, [], sym, ap, subst, ◌∙◌}
use Rattle.ids.specs.Sizes.{Sizes}
use Rattle.definitions.specs.Chronicles.{Chronicle}
use Rattle.executor.specs.State.{Execution}
use Rattle.definitions.specs.Replicas.{running}
use Rattle.replica.specs.Kept.{Variables}
use Rattle.replica.specs.Advances.{IsWholeOf}
use Rattle.replica.proofs.First.{first-whole}
use Rattle.replica.proofs.replica.Replica.new.Goals as goal

pub invariant_of-result : goal.invariant_of-result
invariant_of-result c =
    let is = c.first_state.ensures c.args.keyring (sym c.requires.sizes) in
    let empty : c.first_state.result.variables.chronicle ≡ [] =
    ap (λ (v : Variables). v.chronicle) is.same in (
      subst (λ (x : Chronicle). IsWholeOf c.args.keyring (record { chronicle = x; standing = running })
          c.first_state.result c.in_ok-executor.executor.history) (sym empty)
          (first-whole c.args.keyring c.first_state.result c.in_ok-executor.executor.history is
          (ap (λ (x : Execution). x.history) c.in_ok-executor.ensures.made)),
      ap (λ (x : Execution). x.most_keys) c.in_ok-executor.ensures.made ∙ c.most_keys.ensures
          ∙ ap (λ (s : Sizes). s.most_keys) c.requires.sizes,
    )

pub returns-clause-made : goal.returns-clause-made
returns-clause-made c =
    let is = c.first_state.ensures c.args.keyring (sym c.requires.sizes) in
    ap (λ (v : Variables).
    record { keys = c.args.keyring; replica = record { chronicle = v.chronicle; standing = running } })
    is.same
