use Rattle.std.proofs.Common.{◌≡◌, List, length, reverse, ap, sym, ◌∙◌}
use Rattle.std.proofs.lemmas.List.{length-map}
use Rattle.definitions.specs.Trees.{Stored}
use Rattle.definitions.specs.Chronicles.{stored_block, stored_blocks, taken_blocks}
use Rattle.replica.specs.Kept.{StateParts}
use Rattle.replica.specs.Replay.{replay}
use Rattle.replica.proofs.Lent.{taken-count}
use Rattle.replica.proofs.state.State.chronicle.Goals as goal

pub new-requires : goal.new-requires
unfolding stored_blocks
new-requires c =
    let steps = reverse c.args.steps.now in
    let stored = c.self.inside.tree.stored in
    let same = ap (λ (s : StateParts). s.variables.stored) c.self.view_is in
    let all : stored_blocks (replay steps stored) ≡ stored =
    ap (λ (x : List Stored). stored_blocks (replay steps x)) same ∙ ap stored_blocks c.requires.steps
    ∙ c.requires.blocks ∙ sym same in
    sym (taken-count steps stored)
    ∙ sym (length-map (taken_blocks (replay steps stored)) stored_block)
    ∙ ap (λ (xs : List Stored). length xs) all

pub returns : goal.returns
returns c =
    c.new.ensures
    ∙ ap (λ (x : List Stored). replay (reverse c.args.steps.now) x)
    (ap (λ (s : StateParts). s.variables.stored) c.self.view_is)
    ∙ c.requires.steps
