use Rattle.std.proofs.Common.{refl, arith, ◌∙◌}
use Rattle.healer.proofs.Making.{blocks-none, blocks-next, blocks-all}
use Rattle.healer.proofs.blocks.make_blocks.Goals as goal

pub loop-made-init : goal.loop-made-init
loop-made-init c = record { origin = refl; made = blocks-none 0 c.args.leader c.args.healer.now refl }

pub loop-made-preserved : goal.loop-made-preserved
loop-made-preserved c = record {
  origin = c.in_ok-make_block.ensures.origin ∙ c.loop-made.invariant.origin;
  made = blocks-next c.loop-made._made c.args.leader c.args.healer.now c.loop-made.healer c.make_block.new.healer
      c.loop-made.invariant.made c.in_ok-make_block.ensures.made;
}

pub returns-clause-made : goal.returns-clause-made
returns-clause-made c =
    blocks-all c.loop-made._made c.args.count c.args.leader c.args.healer.now c.loop-made.healer
    (omega (arith, c.loop-made-test.false, c.loop-made.auto._made-end)) c.loop-made.invariant.made
