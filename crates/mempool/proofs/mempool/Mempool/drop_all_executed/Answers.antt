use Rattle.std.proofs.Common.{◌≡◌, not, filter, ap, ◌∙◌, rules}
use Rattle.indexmap.specs.IndexMap.{values}
use Rattle.indexmap.proofs.CallerLemmas.{filter-RetainsPairs}
use Rattle.frames_view.specs.Views.{commands_left}
use Rattle.mempool.specs.Pool.{is_overtaken, keyed}
use Rattle.mempool.proofs.Keyed.{values-are, keyed-values, filtered-keyed}
use Rattle.mempool.proofs.Overtaking.{overtaken-left}
use Rattle.mempool.proofs.mempool.Mempool.drop_all_executed.Goals as goal

-- what stands in the map afterwards
left : (c : goal.After-retain)
    → c.retain.new.self.entries
    ≡ keyed (filter (λ r. not (is_overtaken (commands_left c.args.executed) r)) (values c.self.inside.requests))
left c =
    filter-RetainsPairs _ (λ e. not (is_overtaken (commands_left c.args.executed) e.1)) _
    (λ k v b w g call. search rules) _ _ c.retain.ensures.filtered
    ∙ ap (filter (λ e. not (is_overtaken (commands_left c.args.executed) e.1))) c.self.invariant
    ∙ filtered-keyed (λ r. not (is_overtaken (commands_left c.args.executed) r)) (values c.self.inside.requests)

pub invariant_of-self : goal.invariant_of-self
invariant_of-self c = keyed-values _ _ (left c)

pub returns : goal.returns
returns c =
    values-are _ _ (left c)
    ∙ ap (filter (λ r. not (is_overtaken (commands_left c.args.executed) r))) c.self.view_is
    ∙ overtaken-left (commands_left c.args.executed) _
