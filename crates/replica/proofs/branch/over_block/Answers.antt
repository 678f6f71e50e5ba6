use Rattle.std.proofs.Common.{◌+◌, ◌∙◌, sym, ap, refl, drop, reverse}
use Rattle.replica.proofs.Locked.{seen-one, seen-all, either, over_of}
use Rattle.replica.proofs.branch.over_block.Goals as goal

pub loop-older-init : goal.loop-older-init
loop-older-init c = λ y h. refl

pub loop-older-preserved : goal.loop-older-preserved
loop-older-preserved c = λ y h.
    let stored = c.args.tree.now.stored in
    seen-one stored y c.args.lower.now c.digest-block.result c.len-count.result c.loop-older.older c.nth_newest.result.now
    c.justified_over.result c.len-count.ensures c.loop-older-test.true h c.digest-block.ensures c.nth_newest.ensures
    c.justified_over.ensures (c.loop-older.invariant y h)
    ∙ ap (λ o. either o (over_of y (drop (c.loop-older.older + 1) (reverse stored)))) c.in_default.is

pub returns-in-Some : goal.returns-in-Some
returns-in-Some c = λ y h.
    let stored = c.args.tree.now.stored in
    sym (seen-one stored y c.args.lower.now c.digest-block.result c.len-count.result c.loop-older.older
    c.nth_newest.result.now c.justified_over.result c.len-count.ensures c.loop-older-test.true h c.digest-block.ensures
    c.nth_newest.ensures c.justified_over.ensures (c.loop-older.invariant y h)
    ∙ ap (λ o. either o (over_of y (drop (c.loop-older.older + 1) (reverse stored)))) c.in-Some.is)

pub returns : goal.returns
returns c = λ y h.
    seen-all c.args.tree.now.stored y c.len-count.result c.loop-older.older c.len-count.ensures c.loop-older-test.false
    (c.loop-older.invariant y h)
