use Rattle.std.proofs.Common.{◌≡◌, Bool, false, [], ◌∷◌, ◌++◌, refl, sym, ap, ◌∙◌, if◌then◌else◌}
use Rattle.std.specs.List.{list_any}
use Rattle.definitions.specs.Frames.{Command}
use Rattle.definitions.specs.States.{is_same_request}
use Rattle.mempool.specs.Pool.{is_of, keyed}
use Rattle.mempool.proofs.Keyed.{values-are, keyed-values, inserted-keyed}
use Rattle.mempool.proofs.mempool.Mempool.insert.Goals as goal

-- the request is new
new-request : (c : goal.Joined-branch-2) → list_any (is_same_request c.args.request) c.args.self.now ≡ false
new-request c =
    let r : Command = c.args.request in
    sym (ap (λ k. list_any (is_of k c.seq-seq.result) c.args.self.now) c.client-client.ensures
    ∙ ap (λ k. list_any (is_of r.client k) c.args.self.now) c.seq-seq.ensures)
    ∙ sym c.contains.ensures ∙ c.if-contains.false

-- what stands in the map after the insertion
joined : (c : goal.Joined-branch-2)
    → c.insert.new.self.entries ≡ keyed (c.args.self.now ++ c.args.request ∷ [])
joined c =
    c.in_ok-insert.ensures.entries
    ∙ inserted-keyed _ c.self.inside.requests c.args.self.now (c.client-client.result, c.seq-seq.result)
    c.args.request (λ r. refl)
    (c.self.invariant ∙ ap keyed c.self.view_is) (λ i. (c.client-client.ensures i, c.seq-seq.ensures i))
    (sym c.contains.ensures ∙ c.if-contains.false)

pub invariant_of-self-2 : goal.invariant_of-self-2
invariant_of-self-2 c = keyed-values _ _ (joined c)

pub returns-clause-added : goal.returns-clause-added
returns-clause-added c =
    values-are _ _ (joined c)
    ∙ ap (λ (b : Bool). if b then c.args.self.now else c.args.self.now ++ c.args.request ∷ [])
    (sym (new-request c))
