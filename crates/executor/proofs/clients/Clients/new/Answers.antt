use Rattle.std.proofs.Common.{ℕ, ◌≡◌, ◌+◌, None, [], ◌∷◌, ◌++◌, length, length-append, ap, ◌∙◌, arith, List}
use Rattle.std.proofs.Common.{Option}
use Rattle.definitions.specs.Histories.{Answer}
use Rattle.executor.specs.Rows.{row}
use Rattle.executor.proofs.State.{rows-more}
use Rattle.executor.proofs.clients.Clients.new.Goals as goal

nothing : (rows : List (Option Answer)) → rows ≡ [] → (length rows ≡ 0) × ((client : ℕ)
    → row rows client ≡ None)
nothing rows e = (ap length e, λ client. ap (λ (l : List (Option Answer)). row l client) e)

more : (n : ℕ) (old new : List (Option Answer)) → new ≡ old ++ None ∷ [] → (length old ≡ n) × ((client : ℕ)
    → row old client ≡ None)
    → (length new ≡ n + 1) × ((client : ℕ) → row new client ≡ None)
more n old new e h = (
  (let k = length-append old (None ∷ []) in let l = h.0 in ap length e ∙ omega (arith, k, l)),
  λ client. ap (λ (l : List (Option Answer)). row l client) e ∙ rows-more old h.1 client,
)

pub loop-client-init : goal.loop-client-init
loop-client-init c = nothing c.in_ok-rows.rows.items c.in_ok-rows.ensures.items

pub loop-client-preserved : goal.loop-client-preserved
loop-client-preserved c =
    more c.loop-client._client c.loop-client.rows.items c.push.new.self.items c.in_ok-push.ensures.items
    c.loop-client.invariant
