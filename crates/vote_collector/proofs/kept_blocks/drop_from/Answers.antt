use Rattle.std.proofs.Common.{nat_lt, rules}
use Rattle.std.proofs.lemmas.Map.Made.{filter_same_pairs}
use Rattle.vote_collector.proofs.kept_blocks.drop_from.Goals as goal

pub returns : goal.returns
returns c = filter_same_pairs _ (λ e. nat_lt c.args.height e.1.height) _ (λ k v b w g call. search rules) _
    _ c.retain.ensures.filtered
