use Rattle.std.proofs.Common.{refl, ap, arith}
use Rattle.std.proofs.lemmas.Bool.{false≢true}
use Rattle.window_files.specs.declared.head.Head.{Head}
use Rattle.window_files.proofs.Leading.{distinct_next, distinct_free}
use Rattle.window_files.proofs.judging.are_distinct.Goals as goal

pub returns-then-not-is_free : goal.returns-then-not-is_free
returns-then-not-is_free c =
    let free = distinct_free c.args.windows.now c.loop-i.i c.index-windows-i.result c.head.result.now.number
    (omega arith) c.index-windows-i.is (ap (λ (h : Head). h.number) c.head.ensures) c.loop-i.invariant in
    (λ no. absurd (false≢true no), λ d. absurd (false≢true (c.if-not-is_free.ensures.1 (free d))))

pub loop-i-preserved : goal.loop-i-preserved
loop-i-preserved c =
    distinct_next c.args.windows.now c.loop-i.i c.index-windows-i.result c.head.result.now.number (omega arith)
    c.index-windows-i.is (ap (λ (h : Head). h.number) c.head.ensures) (c.if-not-is_free.ensures.0 refl)
    c.loop-i.invariant
