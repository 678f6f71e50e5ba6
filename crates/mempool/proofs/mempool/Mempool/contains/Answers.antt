use Rattle.std.proofs.Common.{refl, ap, ◌∙◌}
use Rattle.std.specs.List.{list_any}
use Rattle.indexmap.specs.IndexMap.{values}
use Rattle.mempool.specs.Pool.{is_of}
use Rattle.mempool.proofs.Keyed.{found-keyed}
use Rattle.mempool.proofs.mempool.Mempool.contains.Goals as goal

pub returns : goal.returns
returns c =
    c.contains_key.ensures
    ∙ found-keyed _ (is_of c.args.client c.args.seq) (λ r. refl) c.self.inside.requests
    (values c.self.inside.requests) c.self.invariant
    ∙ ap (list_any (is_of c.args.client c.args.seq)) c.self.view_is
