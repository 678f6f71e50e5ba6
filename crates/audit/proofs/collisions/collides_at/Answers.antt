use Rattle.std.proofs.Common.{ℕ, ◌∙◌, refl, sym, ap, subst, arith, true≢false, take_all}
use Rattle.std.specs.Prelude.{All}
use Rattle.std.specs.Borrow.{Bor}
use Rattle.std.proofs.lemmas.List.Elements.{All-more}
use Rattle.definitions.specs.Frames.{Core, genesis_core}
use Rattle.definitions.specs.Chronicles.{Chronicle}
use Rattle.definitions.specs.Audit.{core_in, core_at, step_after, CorePlace.at_step}
use Rattle.replica.specs.Steps.{Held}
use Rattle.audit.specs.Judged.{judged}
use Rattle.audit.specs.Cores.{known, Stores, Collide}
use Rattle.audit.proofs.ByNumber.{member-among}
use Rattle.audit.proofs.Colliding.{own-place, none-known}
use Rattle.audit.proofs.collisions.collides_at.Goals as goal

pub returns-then-collides_with : goal.returns-then-collides_with
unfolding core_at
returns-then-collides_with c = (genesis_core, refl, c.collides_with.ensures.0 c.if-collides_with.true)

pub returns-in-Some : goal.returns-in-Some
returns-in-Some c =
    let rs = c.args.replicas.now in
    let r = c.replica-item.result in
    let b = c.in-Some.ensures.0 in (
      b,
      ap (λ (n : ℕ). core_at (judged rs) (at_step n c.in-Some.step)) c.number-replica.ensures
          ∙ own-place rs c.requires r.now
          (member-among rs c.loop-replica.replica-index r (omega (arith, c.loop-replica-test.true))
          c.replica-item.is) c.in-Some.step b
          (ap (λ (x : Chronicle). core_in (step_after c.in-Some.step x)) (sym c.chronicle.ensures)
          ∙ c.in-Some.ensures.1),
      c.in-Some.ensures.2,
    )

pub loop-replica-preserved : goal.loop-replica-preserved
loop-replica-preserved c =
    let P : Bor Held → Type 0 =
    λ r. (b : Core) → Stores r.now.replica.chronicle b → Collide (known c.args.core.now) b → ⊥ in
    All-more P c.args.replicas.now c.loop-replica.replica-index c.replica-item.result
    (omega (arith, c.loop-replica-test.true)) c.loop-replica.invariant
    (subst P c.replica-item.is
    (λ b s. c.in_default.ensures b (subst (λ (x : Chronicle). Stores x b) (sym c.chronicle.ensures) s)))

pub returns : goal.returns
returns c =
    let rs = c.args.replicas.now in
    let P : Bor Held → Type 0 =
    λ r. (b : Core) → Stores r.now.replica.chronicle b → Collide (known c.args.core.now) b → ⊥ in
    none-known rs (known c.args.core.now)
    (λ w. true≢false (sym (c.collides_with.ensures.1 w) ∙ c.if-collides_with.false))
    (subst (All P) (take_all c.loop-replica.replica-index rs (omega (arith, c.loop-replica-test.false)))
    c.loop-replica.invariant)
