use Rattle.std.proofs.Common.{◌∙◌, sym}
use Rattle.std.proofs.lemmas.Bool.{cond-true, cond-false}
use Rattle.replica.proofs.Locked.{told-some, told-has, told-over}
use Rattle.replica.proofs.branch.justified_over.Goals as goal

pub returns-in_err-first : goal.returns-in_err-first
returns-in_err-first c = λ x y h k.
    absurd (told-some c.args.tree.now.stored x c.args.block.now c.justified.result h c.justified.ensures c.in_err-first.was)

pub returns-in_err-second : goal.returns-in_err-second
returns-in_err-second c = λ x y h k.
    absurd (told-some c.args.tree.now.stored _ c.in_ok-first.first c.justified-2.result
    (told-has c.args.tree.now.stored x c.args.block.now c.in_ok-first.first c.in_ok-first.height c.justified.result h
    c.justified.ensures c.in_ok-first.was) c.justified-2.ensures c.in_err-second.was)

pub returns-then-eq : goal.returns-then-eq
returns-then-eq c = λ x y h k.
    sym (cond-true c.eq.result _ _ c.if-eq.true)
    ∙ told-over c.args.tree.now.stored x y c.args.block.now c.args.lower.now c.in_ok-first.first c.in_ok-second.second
    c.in_ok-first.height c.in_ok-second.field-0-1 c.justified.result c.justified-2.result c.eq.result h k
    c.justified.ensures c.in_ok-first.was c.justified-2.ensures c.in_ok-second.was c.eq.ensures

pub returns-else-eq : goal.returns-else-eq
returns-else-eq c = λ x y h k.
    sym (cond-false c.eq.result _ _ c.if-eq.false)
    ∙ told-over c.args.tree.now.stored x y c.args.block.now c.args.lower.now c.in_ok-first.first c.in_ok-second.second
    c.in_ok-first.height c.in_ok-second.field-0-1 c.justified.result c.justified-2.result c.eq.result h k
    c.justified.ensures c.in_ok-first.was c.justified-2.ensures c.in_ok-second.was c.eq.ensures
