use Rattle.std.proofs.Common.{ℕ, ◌≡◌, ◌∙◌, Some, sym, ap}
use Rattle.definitions.specs.Frames.{Core}
use Rattle.definitions.specs.Audit.{core_in, core_at, step_after, CorePlace.at_step}
use Rattle.frames_view.specs.Views.{core_of}
use Rattle.audit_ground.specs.Law.{KnownTo}
use Rattle.audit.specs.Judged.{judged}
use Rattle.audit.specs.Cores.{Collide}
use Rattle.audit.proofs.Colliding.{own-place, left-step, left-less, left-none, only-core, no-core}
use Rattle.audit.proofs.collisions.collision_of.Goals as goal

pub returns-in-Some-collides_at : goal.returns-in-Some-collides_at
returns-in-Some-collides_at c =
    let rs = c.args.replicas.now in
    let whole = c.args.replica.now.replica.chronicle in
    let own = core_of c.in-Some-core.core in
    let Wanted = λ (a : Core). (b : Core) × KnownTo (judged rs) b × Collide a b in
    let here : core_in (step_after c.len.result whole) ≡ Some own =
    ap (λ (n : ℕ). core_in (step_after n whole)) c.len.ensures
    ∙ ap core_in (left-step Wanted whole c.loop-step.earlier c.next.new.self c.in-Some.step
    c.in-Some.ensures.steps c.loop-step.invariant.2)
    ∙ sym c.in-Some-core.ensures in
    record {
      a = own;
      b = c.in-Some-collides_at.ensures.0;
      first_is =
          ap (λ (n : ℕ). core_at (judged rs) (at_step n c.len.result)) c.number-number.ensures
          ∙ own-place rs c.requires.distinct c.args.replica.now c.requires.member c.len.result own here;
      second_is = c.in-Some-collides_at.ensures.1;
      unequal = c.in-Some-collides_at.ensures.2.0;
      one_digest = c.in-Some-collides_at.ensures.2.1;
    }

pub loop-step-preserved-in_default-collides_at : goal.loop-step-preserved-in_default-collides_at
loop-step-preserved-in_default-collides_at c =
    let Wanted = λ (a : Core). (b : Core) × KnownTo (judged c.args.replicas.now) b × Collide a b in (
      tt,
      tt,
      left-less Wanted c.args.replica.now.replica.chronicle c.loop-step.earlier c.next.new.self c.in-Some.step
          c.in-Some.ensures.steps
          (only-core Wanted c.in-Some.step (core_of c.in-Some-core.core) c.in-Some-core.ensures
          (λ w. c.in_default-collides_at.ensures w.0 w.1 w.2))
          c.loop-step.invariant.2,
    )

pub loop-step-preserved : goal.loop-step-preserved
loop-step-preserved c =
    let Wanted = λ (a : Core). (b : Core) × KnownTo (judged c.args.replicas.now) b × Collide a b in (
      tt,
      tt,
      left-less Wanted c.args.replica.now.replica.chronicle c.loop-step.earlier c.next.new.self c.in-Some.step
          c.in-Some.ensures.steps
          (no-core Wanted c.in-Some.step c.in_default-core.ensures) c.loop-step.invariant.2,
    )

pub returns : goal.returns
returns c a b s k w =
    left-none (λ (x : Core). (y : Core) × KnownTo (judged c.args.replicas.now) y × Collide x y)
    c.args.replica.now.replica.chronicle c.loop-step.earlier c.in_default.ensures.steps.0
    c.loop-step.invariant.2 a s (b, k, w)
