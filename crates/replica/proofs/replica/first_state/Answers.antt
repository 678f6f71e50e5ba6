use Rattle.std.proofs.Common.{List, ℕ, [], None, ap, sym, ◌∙◌}
use Rattle.ids.specs.Sizes.{Sizes}
use Rattle.vote_collector.specs.Collecting.{Collected}
use Rattle.replica.proofs.First.{first}
use Rattle.replica.proofs.replica.first_state.Goals as goal

pub returns : goal.returns
returns c keys e =
    first keys _
    (λ i. record {
      chronicle = c.new-6.ensures i;
      most = (c.new.ensures i).most;
      horizon = (c.new.ensures i).horizon;
      stored = (c.new.ensures i).stored;
      rules = c.new-2.ensures i;
      high = record {
        block = c.genesis.ensures i;
        certificate =
            (c.without_votes.ensures
            ∙ ap (λ (d : List ℕ). record { digest = d; votes = [] }) c.genesis_digest.ensures) i;
      };
      leaf = c.genesis-2.ensures i;
      own = None;
    }) (c.new-3.ensures.sizes ∙ sym e) c.new-3.ensures.begins
    (c.new-4.ensures
    ∙ ap (λ (z : Sizes). let v : Collected = record { sizes = z; kept = [] } in v) (sym e))
    c.new-5.ensures
