use Rattle.std.proofs.Common.{ℕ, ◌∙◌, sym, ap, true≢false}
use Rattle.definitions.specs.Frames.{Core}
use Rattle.definitions.specs.Audit.{core_in, step_after}
use Rattle.frames_view.specs.Views.{core_of}
use Rattle.audit.specs.Cores.{known, Collide}
use Rattle.audit.proofs.Colliding.{left-step, left-less, only-core, no-core}
use Rattle.audit.proofs.collisions.collides_in.Goals as goal

pub returns-then-collides_with : goal.returns-then-collides_with
returns-then-collides_with c =
    let whole = c.args.chronicle in (
      core_of c.in-Some-core.other,
      ap (λ (n : ℕ). core_in (step_after n whole)) c.len.ensures
          ∙ ap core_in (left-step (λ b. Collide (known c.args.core.now) b) whole c.loop-step.earlier
          c.next.new.self c.in-Some.step c.in-Some.ensures.steps c.loop-step.invariant.2)
          ∙ sym c.in-Some-core.ensures,
      c.collides_with.ensures.0 c.if-collides_with.true,
    )

pub loop-step-preserved-else-collides_with : goal.loop-step-preserved-else-collides_with
loop-step-preserved-else-collides_with c =
    let Wanted = λ (b : Core). Collide (known c.args.core.now) b in (
      tt,
      tt,
      left-less Wanted c.args.chronicle c.loop-step.earlier c.next.new.self c.in-Some.step
          c.in-Some.ensures.steps
          (only-core Wanted c.in-Some.step (core_of c.in-Some-core.other) c.in-Some-core.ensures
          (λ w. true≢false (sym (c.collides_with.ensures.1 w) ∙ c.if-collides_with.false)))
          c.loop-step.invariant.2,
    )

pub loop-step-preserved : goal.loop-step-preserved
loop-step-preserved c =
    let Wanted = λ (b : Core). Collide (known c.args.core.now) b in (
      tt,
      tt,
      left-less Wanted c.args.chronicle c.loop-step.earlier c.next.new.self c.in-Some.step
          c.in-Some.ensures.steps
          (no-core Wanted c.in-Some.step c.in_default-core.ensures) c.loop-step.invariant.2,
    )
