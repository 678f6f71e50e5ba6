use Rattle.std.proofs.Common.{ℕ, ◌-◌, List, sym, ◌∙◌, arith}
use Rattle.frame_record.specs.declared.recorded.Recorded.{Recorded}
use Rattle.frame_record.proofs.Finding.{none-at-all, none-down}
use Rattle.frame_record.proofs.ordered.has.Goals as goal

pub returns-then-is_below : goal.returns-then-is_below
returns-then-is_below c =
    let frames : List Recorded = c.args.frames.now.items in
    let i : ℕ = c.len-len.result - 1 - c.loop-k.k in
    sym (none-down c.args.height c.args.block.now frames i c.index-recorded.result.now c.requires (omega arith)
    c.index-recorded.ensures (sym c.is_below.ensures ∙ c.if-is_below.true)
    (λ j d l m. c.loop-k.invariant j d (omega (arith, l)) m))

pub returns : goal.returns
returns c =
    sym (none-at-all c.args.height c.args.block.now c.args.frames.now.items
    (λ j d m. c.loop-k.invariant j d (omega arith) m))
