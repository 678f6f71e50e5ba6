use Rattle.std.proofs.Common.{◌≡◌, ap, ◌∙◌, length, arith, nat_lt, inr}
use Rattle.definitions.specs.Frames.{Core}
use Rattle.definitions.specs.Trees.{blocks}
use Rattle.block_tree.specs.Numbers.{numbered}
use Rattle.block_tree.specs.Nodes.{ForestState, IsHere}
use Rattle.block_tree.proofs.Found.{core-height}
use Rattle.block_tree.proofs.Numbers.{blocks-count}
use Rattle.block_tree.proofs.Kept.{entry-of}
use Rattle.block_tree.proofs.forest.Forest.is_pruned.Goals as goal

pub returns : goal.returns
returns c =
    let f = c.args.self.now in
    let first : c.self.inside.first ≡ f.first = ap (λ (f : ForestState). f.first) c.self.view_is in
    let here : IsHere f c.args.number = record {
      known = omega (arith, blocks-count f.all, c.requires.known);
      kept = inr c.requires.kept;
    } in
    let is = entry-of f c.entry_at.result.now c.args.number c.entry_at.ensures here
    (λ e. omega (arith, e, c.self.invariant.some, first, c.requires.kept)) in
    let height : c.result.inside.0 ≡ length (numbered (blocks f.all) c.args.number) =
    c.result.view_is ∙ c.height.ensures ∙ ap (λ (k : Core). k.height) is.core
    ∙ core-height (numbered (blocks f.all) c.args.number) in
    λ i. nat_lt (height i) (c.floor.ensures i)
