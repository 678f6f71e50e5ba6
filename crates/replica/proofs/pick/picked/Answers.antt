use Rattle.std.proofs.Common.{◌≡◌, ◌∙◌, List, length, map, arith, sym, ap}
use Rattle.std.proofs.lemmas.List.{length-map}
use Rattle.std.specs.List.{flat_map}
use Rattle.definitions.specs.Frames.{Command, command_bytes}
use Rattle.mempool.specs.Pool.{first_beside}
use Rattle.replica.specs.Kept.{StateParts}
use Rattle.replica.specs.Picks.{proposed_above, picked}
use Rattle.replica.proofs.Waiting.{beside-reversed}
use Rattle.replica.proofs.Walking.{few-beside}
use Rattle.replica.proofs.pick.picked.Goals as goal

pub count_of-count-requires : goal.count_of-count-requires
count_of-count-requires c =
    let few = few-beside c.deref.result.now c.state.inside.pool in
    let size = ap (λ (l : List Command). length l) c.in_ok-picked.ensures in
    let mapped = length-map c.in_ok-picked.picked.items (λ r. r.now) in
    let value = ap (λ l. length l) c.deref-2.ensures.value in
    omega (arith, few, size, mapped, value)

pub returns-clause-picked : goal.returns-clause-picked
returns-clause-picked c =
    let s : StateParts = c.args.state.now in
    let on = c.deref.ensures.value ∙ c.in_ok-on_branch.ensures in
    let pool : c.state.inside.pool ≡ s.pending = ap (λ (k : StateParts). k.pending) c.state.view_is in
    let took : map (λ r. r.now) c.in_ok-picked.picked.items ≡ picked s =
    c.in_ok-picked.ensures ∙ (λ i. first_beside (on i) (pool i))
    ∙ beside-reversed (proposed_above s.variables) s.pending in (
      c.count_of-count.ensures ∙ ap (λ l. length l) c.deref-2.ensures.value
          ∙ sym (length-map c.in_ok-picked.picked.items (λ r. r.now))
          ∙ ap (λ (l : List Command). length l) took,
      c.in_ok-commands.ensures.joined
          ∙ ap (λ l. flat_map command_bytes (map (λ r. r.now) l)) c.deref-3.ensures.value
          ∙ ap (flat_map command_bytes) took,
    )
