use Rattle.std.proofs.Common.{ℕ, List, ap, sym, slice_index, ◌∙◌}
use Rattle.sha2.specs.Sha256.{round, round_constants, schedule}
use Rattle.sha2.proofs.Schedule256.{rounds_next}
use Rattle.lanes.proofs.compression.step.Goals as goal

pub returns : goal.returns
returns c = λ j b h lt keyed held.
    let ws = schedule b 48 in
    c.round.ensures j _ _ lt (keyed c.args.t c.requires)
    ∙ ap (λ (v : List ℕ). round v (slice_index round_constants c.args.t) (slice_index ws c.args.t)) held
    ∙ sym (rounds_next h ws c.args.t)
