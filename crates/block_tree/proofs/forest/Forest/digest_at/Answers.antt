use Rattle.std.proofs.Common.{ℕ, sym, ap, ◌∙◌}
use Rattle.definitions.specs.Digests.{digest_of}
use Rattle.definitions.specs.Trees.{blocks}
use Rattle.block_tree.specs.Numbers.{numbered}
use Rattle.block_tree.proofs.Numbered.{numbered-genesis}
use Rattle.block_tree.proofs.Kept.{genesis-digest, entry-of, here-known}
use Rattle.block_tree.proofs.forest.Forest.digest_at.Goals as goal

pub returns-then-number-eq0 : goal.returns-then-number-eq0
returns-then-number-eq0 c =
    c.self.invariant.genesis ∙ sym genesis-digest
    ∙ sym (ap (λ (k : ℕ). digest_of (numbered (blocks c.args.self.now.all) k)) c.if-number-eq0.true
    ∙ ap digest_of (numbered-genesis c.args.self.now.all))

pub entry_at-requires-clause-kept : goal.entry_at-requires-clause-kept
entry_at-requires-clause-kept c =
    (here-known c.args.self.now c.args.number c.requires c.if-number-eq0.false).0

pub entry_at-requires-clause-known : goal.entry_at-requires-clause-known
entry_at-requires-clause-known c =
    (here-known c.args.self.now c.args.number c.requires c.if-number-eq0.false).1

pub returns : goal.returns
returns c =
    (entry-of c.args.self.now c.entry_at.result.now c.args.number c.entry_at.ensures c.requires
    c.if-number-eq0.false).named
