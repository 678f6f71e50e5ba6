use Rattle.healer.proofs.Records.{goes-nowhere, goes-there}
use Rattle.std.proofs.Common.{sym, arith, ◌∙◌}
use Rattle.healer.proofs.healer.receiver.Goals as goal

pub returns-then-is_of : goal.returns-then-is_of
returns-then-is_of c = λ hs w t.
    goes-there c.frames-frames.result.now w.sent c.args.frame c.index-frames-frame.result c.args.kind (c.frames-frames.ensures hs w t)
    (omega (arith, c.if-frame-frames.false)) c.index-frames-frame.is (sym c.is_of.ensures ∙ c.if-is_of.true)

pub returns-else-is_of : goal.returns-else-is_of
returns-else-is_of c = λ hs w t.
    goes-nowhere c.frames-frames.result.now w.sent c.args.frame c.index-frames-frame.result c.args.kind (c.frames-frames.ensures hs w t)
    (omega (arith, c.if-frame-frames.false)) c.index-frames-frame.is (sym c.is_of.ensures ∙ c.if-is_of.false)
