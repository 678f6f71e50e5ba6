use Rattle.std.proofs.Common.{ℕ, Vec, Global, true, false, refl, sym, ap, ◌∙◌, arith}
use Rattle.healer.specs.Records.{is_of}
use Rattle.healer.proofs.Records.{numbers-none, number-taken, number-passed, numbers-all, frame-at, kind-shown, as-many}
use Rattle.healer.proofs.healer.Healer.sent_since.Goals as goal
use Rattle.healer.proofs.healer.Healer.sent_since.Goals.{then-is_of+in_ok-push, else-is_of}

pub loop-number-init : goal.loop-number-init
loop-number-init c = λ hs w t.
    c.new-numbers.ensures.items ∙ numbers-none (is_of c.args.kind) c.args.before c.args.before w.sent refl

pub loop-number-preserved : goal.loop-number-preserved
loop-number-preserved c = λ hs w t.
    let f = frame-at c.frames-frames.result.now w.sent c.loop-number.number c.index-frames-number.result
    (c.frames-frames.ensures hs w t) (omega (arith, c.loop-number-test.true)) c.index-frames-number.is in
    elim c.if-is_of.branch [
      | then-is_of+in_ok-push v ↦
          ap (λ (y : Vec ℕ Global). y.items) v.numbers-is
          ∙ (v.in_ok-push.ensures.items
          ∙ number-taken (is_of c.args.kind) w.sent c.args.before c.loop-number.number f.0 c.loop-number.numbers.items
          c.loop-number.auto.number f.1
          (kind-shown c.index-frames-number.result f.0 c.args.kind true f.2 (sym c.is_of.ensures ∙ v.if-is_of.true))
          (c.loop-number.invariant hs w t))
      | else-is_of v ↦
          ap (λ (y : Vec ℕ Global). y.items) v.numbers-is
          ∙ number-passed (is_of c.args.kind) w.sent c.args.before c.loop-number.number f.0 c.loop-number.numbers.items
          c.loop-number.auto.number f.1
          (kind-shown c.index-frames-number.result f.0 c.args.kind false f.2 (sym c.is_of.ensures ∙ v.if-is_of.false))
          (c.loop-number.invariant hs w t)
    ]

pub returns : goal.returns
returns c = λ hs w t.
    let n = as-many c.frames-frames.result.now w.sent (c.frames-frames.ensures hs w t) in
    numbers-all (is_of c.args.kind) c.args.before c.loop-number.number w.sent c.loop-number.numbers.items
    (omega (arith, n, c.loop-number-test.false)) (c.loop-number.invariant hs w t)
