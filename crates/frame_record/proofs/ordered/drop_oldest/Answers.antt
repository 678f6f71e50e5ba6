use Rattle.std.proofs.Common.{arith, sym, ◌∙◌}
use Rattle.frame_record.proofs.Costing.{fitting-all}
use Rattle.frame_record.proofs.ordered.drop_oldest.Goals as goal

pub returns-after-loop-left-clause-fits : goal.returns-after-loop-left-clause-fits
returns-after-loop-left-clause-fits c =
    sym (fitting-all c.args.most c.loop-left.frames.items (omega arith)) ∙ c.loop-left.invariant.fits
