use Rattle.std.proofs.Common.{reverse, ap, sym, ◌∙◌}
use Rattle.definitions.specs.Chronicles.{standing_blocks, horizon}
use Rattle.definitions.proofs.Horizons.{standing-all}
use Rattle.replica.specs.Kept.{Variables}
use Rattle.replica.specs.Steps.{Held}
use Rattle.replica.specs.Replay.{replay}
use Rattle.replica.proofs.Archives.{unpruned-low}
use Rattle.replica.proofs.replica.Replica.chronicle.Goals as goal

pub chronicle-requires-clause-steps : goal.chronicle-requires-clause-steps
chronicle-requires-clause-steps c =
    let steps = reverse c.args.steps.now in
    let same = ap (λ (h : Held). h.replica.chronicle) c.self.view_is in
    ap (replay steps)
    (ap (λ (v : Variables). v.stored) c.self.invariant.0.state.same ∙ ap standing_blocks same)
    ∙ c.requires.steps ∙ sym same

pub chronicle-requires-clause-blocks : goal.chronicle-requires-clause-blocks
chronicle-requires-clause-blocks c =
    let same = ap (λ (h : Held). h.replica.chronicle) c.self.view_is in
    sym (standing-all _ (ap horizon same ∙ unpruned-low _ c.requires.unpruned))
    ∙ sym (ap (λ (v : Variables). v.stored) c.self.invariant.0.state.same)

pub returns : goal.returns
returns c = c.chronicle.ensures ∙ ap (λ (h : Held). h.replica.chronicle) c.self.view_is
