use Rattle.ids.specs.declared.limits.TheConstants.{MOST_OF_HEIGHT}
use Rattle.std.proofs.Common.{◌≡◌, length, ap, ◌∙◌, nat_lt, count_by, ℕ, ◌==◌, arith}
use Rattle.std.specs.Prelude.{not}
use Rattle.definitions.specs.Branches.{Branch}
use Rattle.definitions.specs.Trees.{TreeState, blocks}
use Rattle.block_tree.proofs.Places.{at-least}
use Rattle.block_tree.proofs.tree.Tree.is_crowded.Goals as goal

pub returns : goal.returns
returns c =
    let h = c.args.height in
    let same = ap (λ (t : TreeState). t.horizon) c.self.view_is in
    let count : c.of.result ≡ count_by (λ (x : Branch). length x == h) (blocks c.args.self.now.stored) =
    c.of.ensures ∙ c.self.invariant.counted.right h (omega (arith, c.self.invariant.base, c.requires, same))
    ∙ ap (λ (t : TreeState). count_by (λ (x : Branch). length x == h) (blocks t.stored)) c.self.view_is in
    at-least c.of.result MOST_OF_HEIGHT ∙ ap (λ (n : ℕ). not (nat_lt n MOST_OF_HEIGHT)) count
