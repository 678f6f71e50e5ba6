use Rattle.std.proofs.Common.{arith, sym, ◌∙◌}
use Rattle.healer.proofs.Asked.{read-told, told-at, found-begins, found-next, found-here, found-nowhere}
use Rattle.healer.proofs.Records.{frame-at, as-many}
use Rattle.healer.proofs.requests.find_request.Goals as goal

pub loop-number-init : goal.loop-number-init
loop-number-init c = λ hs w t. sym (found-begins c.args.client c.args.session.now.session w)

pub loop-number-preserved : goal.loop-number-preserved
loop-number-preserved c = λ hs w t.
    let n = c.loop-number.number in
    let a = frame-at c.frames-frames.result.now w.sent n c.index-frames-number.result (c.frames-frames.ensures hs w t)
    (omega (arith, c.loop-number-test.true)) c.index-frames-number.is in
    sym (found-next c.args.client c.args.session.now.session w n a.0 a.1
    (sym (c.is_asked_in.ensures a.0 a.2 (told-at c.config-config.result w n a.0 (c.config-config.ensures hs w t) (read-told c.args.healer.now c.holds.ensures.own c.holds.ensures.world hs w t) a.1))
    ∙ c.if-is_asked_in.false)) ∙ c.loop-number.invariant hs w t

pub returns-then-is_asked_in : goal.returns-then-is_asked_in
returns-then-is_asked_in c = λ hs w t.
    let n = c.loop-number.number in
    let a = frame-at c.frames-frames.result.now w.sent n c.index-frames-number.result (c.frames-frames.ensures hs w t)
    (omega (arith, c.loop-number-test.true)) c.index-frames-number.is in
    sym (found-here c.args.client c.args.session.now.session w n a.0 a.1
    (sym (c.is_asked_in.ensures a.0 a.2 (told-at c.config-config.result w n a.0 (c.config-config.ensures hs w t) (read-told c.args.healer.now c.holds.ensures.own c.holds.ensures.world hs w t) a.1))
    ∙ c.if-is_asked_in.true)) ∙ c.loop-number.invariant hs w t

pub returns : goal.returns
returns c = λ hs w t.
    let many = as-many c.frames-frames.result.now w.sent (c.frames-frames.ensures hs w t) in
    sym (found-nowhere c.args.client c.args.session.now.session w c.loop-number.number
    (omega (arith, many, c.loop-number-test.false))) ∙ c.loop-number.invariant hs w t
