use Rattle.std.proofs.Common.{ap, sym, subst, ◌∙◌, ◌-◌, reverse, length, arith}
use Rattle.std.proofs.lemmas.Bool.{ltb-true, ltb-false}
use Rattle.definitions.specs.Branches.{Branch}
use Rattle.definitions.specs.Trees.{blocks}
use Rattle.block_tree.specs.Numbers.{numbered}
use Rattle.block_tree.specs.Nodes.{ForestState, IsForest}
use Rattle.block_tree.proofs.Numbered.{nth-branch}
use Rattle.block_tree.proofs.Kept.{index-some, index-none, index-pruned, index-standing}
use Rattle.block_tree.proofs.forest.Forest.stored_number.Goals as goal

pub returns-in_err-number : goal.returns-in_err-number
returns-in_err-number c =
    let f = c.args.self.now in
    let w = subst (λ (f : ForestState). IsForest f c.self.inside.genesis
    (reverse c.self.inside.entries.items) c.self.inside.index) c.self.view_is c.self.invariant in
    rw c.from_residual.ensures (index-none f c.self.inside.genesis (reverse c.self.inside.entries.items)
    c.self.inside.index w c.args.digest.now (sym c.in_err-number.ensures))

pub is_pruned-requires-clause-known : goal.is_pruned-requires-clause-known
is_pruned-requires-clause-known c =
    let f = c.args.self.now in
    let w = subst (λ (f : ForestState). IsForest f c.self.inside.genesis
    (reverse c.self.inside.entries.items) c.self.inside.index) c.self.view_is c.self.invariant in
    (index-some f c.self.inside.genesis (reverse c.self.inside.entries.items) c.self.inside.index w
    c.args.digest.now c.in_ok-number.number (sym c.in_ok-number.ensures)).known

pub is_pruned-requires-clause-kept : goal.is_pruned-requires-clause-kept
is_pruned-requires-clause-kept c =
    let f = c.args.self.now in
    let w = subst (λ (f : ForestState). IsForest f c.self.inside.genesis
    (reverse c.self.inside.entries.items) c.self.inside.index) c.self.view_is c.self.invariant in
    (index-some f c.self.inside.genesis (reverse c.self.inside.entries.items) c.self.inside.index w
    c.args.digest.now c.in_ok-number.number (sym c.in_ok-number.ensures)).kept

pub returns-then-is_pruned : goal.returns-then-is_pruned
returns-then-is_pruned c =
    let f = c.args.self.now in
    let w = subst (λ (f : ForestState). IsForest f c.self.inside.genesis
    (reverse c.self.inside.entries.items) c.self.inside.index) c.self.view_is c.self.invariant in
    let k = c.in_ok-number.number in
    let at = index-some f c.self.inside.genesis (reverse c.self.inside.entries.items) c.self.inside.index w
    c.args.digest.now k (sym c.in_ok-number.ensures) in
    let same = ap (λ (b : Branch). length b) (nth-branch f.all k at.stored at.at) in
    let test = ltb-true (length (numbered (blocks f.all) k)) (f.horizon - 2)
    (sym c.is_pruned.ensures ∙ c.if-is_pruned.true) in
    index-pruned f c.self.inside.genesis (reverse c.self.inside.entries.items) c.self.inside.index w
    c.args.digest.now k at (omega (arith, same, test))

pub returns : goal.returns
returns c =
    let f = c.args.self.now in
    let w = subst (λ (f : ForestState). IsForest f c.self.inside.genesis
    (reverse c.self.inside.entries.items) c.self.inside.index) c.self.view_is c.self.invariant in
    let k = c.in_ok-number.number in
    let at = index-some f c.self.inside.genesis (reverse c.self.inside.entries.items) c.self.inside.index w
    c.args.digest.now k (sym c.in_ok-number.ensures) in
    let same = ap (λ (b : Branch). length b) (nth-branch f.all k at.stored at.at) in
    let test = ltb-false (length (numbered (blocks f.all) k)) (f.horizon - 2)
    (sym c.is_pruned.ensures ∙ c.if-is_pruned.false) in
    index-standing f c.self.inside.genesis (reverse c.self.inside.entries.items) c.self.inside.index w
    c.args.digest.now k at (omega (arith, same, test))
