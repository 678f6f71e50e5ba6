use Rattle.std.proofs.Common.{arith, ◌∙◌}
use Rattle.healer.proofs.Asking.{sources-next, sources-all}
use Rattle.healer.proofs.fetching.sources_of.Goals as goal

pub loop-frame-init : goal.loop-frame-init
loop-frame-init c = c.new-sources.ensures.items

pub loop-frame-preserved : goal.loop-frame-preserved
loop-frame-preserved c =
    c.in_ok-push.ensures.items
    ∙ sources-next c.args.frames.now c.loop-frame.frame-index 0 c.loop-frame.sources.items
    (omega (arith, c.loop-frame-test.true)) c.loop-frame.invariant

pub returns : goal.returns
returns c =
    sources-all c.args.frames.now c.loop-frame.frame-index c.loop-frame.sources.items
    (omega (arith, c.loop-frame-test.false)) c.loop-frame.invariant
