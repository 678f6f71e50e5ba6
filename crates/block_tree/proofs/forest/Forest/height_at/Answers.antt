use Rattle.std.proofs.Common.{ℕ, sym, ap, ◌∙◌, length}
use Rattle.definitions.specs.Branches.{Branch}
use Rattle.definitions.specs.Frames.{Core}
use Rattle.definitions.specs.Trees.{blocks}
use Rattle.block_tree.specs.Numbers.{numbered}
use Rattle.block_tree.proofs.Found.{core-height}
use Rattle.block_tree.proofs.Numbered.{numbered-genesis}
use Rattle.block_tree.proofs.Kept.{entry-of, here-known}
use Rattle.block_tree.proofs.forest.Forest.height_at.Goals as goal

pub returns-then-number-eq0 : goal.returns-then-number-eq0
returns-then-number-eq0 c =
    sym (ap (λ (k : ℕ). length (numbered (blocks c.args.self.now.all) k)) c.if-number-eq0.true
    ∙ ap (λ (b : Branch). length b) (numbered-genesis c.args.self.now.all))

pub entry_at-requires-clause-kept : goal.entry_at-requires-clause-kept
entry_at-requires-clause-kept c =
    (here-known c.args.self.now c.args.number c.requires c.if-number-eq0.false).0

pub entry_at-requires-clause-known : goal.entry_at-requires-clause-known
entry_at-requires-clause-known c =
    (here-known c.args.self.now c.args.number c.requires c.if-number-eq0.false).1

pub returns : goal.returns
returns c =
    let f = c.args.self.now in
    let is = entry-of f c.entry_at.result.now c.args.number c.entry_at.ensures c.requires
    c.if-number-eq0.false in
    c.height.ensures
    ∙ (ap (λ (k : Core). k.height) is.core ∙ core-height (numbered (blocks f.all) c.args.number))
