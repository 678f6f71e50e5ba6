use Rattle.std.proofs.Common.{refl, sym, ◌∙◌, arith, below_more}
use Rattle.locked_replica.proofs.once.each_once.Goals as goal

pub returns-then-holders-ne1 : goal.returns-then-holders-ne1
returns-then-holders-ne1 c = (
  λ no. absurd (cc no),
  λ all. absurd (c.if-holders-ne1.true (c.holders.ensures ∙ all _ c.loop-i-test.true)),
)

pub loop-i-preserved : goal.loop-i-preserved
loop-i-preserved c = below_more _ _ c.loop-i.invariant (sym c.holders.ensures ∙ c.if-holders-ne1.false)

pub returns : goal.returns
returns c = (λ _ i below. c.loop-i.invariant i (omega arith), λ _. refl)
