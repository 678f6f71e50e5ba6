use Rattle.std.proofs.Common.{refl, subst, arith, take_all}
use Rattle.std.specs.Prelude.{All}
use Rattle.std.specs.Borrow.{Bor}
use Rattle.std.proofs.lemmas.List.Elements.{All-more}
use Rattle.definitions.specs.Frames.{Core, genesis_core}
use Rattle.definitions.specs.Audit.{core_at}
use Rattle.audit_ground.specs.Law.{KnownTo}
use Rattle.replica.specs.Steps.{Held}
use Rattle.audit.specs.Judged.{judged}
use Rattle.audit.specs.Cores.{Stores, Collide}
use Rattle.audit.proofs.ByNumber.{member-among}
use Rattle.audit.proofs.Colliding.{none-collide}
use Rattle.audit.proofs.collisions.find_collision.Goals as goal

pub returns-in-Some : goal.returns-in-Some
unfolding core_at
returns-in-Some c = record {
  a = genesis_core;
  b = c.in-Some.ensures.0;
  first_is = refl;
  second_is = c.in-Some.ensures.1;
  unequal = c.in-Some.ensures.2.0;
  one_digest = c.in-Some.ensures.2.1;
}

pub collision_of-requires-clause-member : goal.collision_of-requires-clause-member
collision_of-requires-clause-member c =
    member-among c.args.replicas.now c.loop-replica.replica-index c.replica-item.result
    (omega (arith, c.loop-replica-test.true)) c.replica-item.is

pub loop-replica-preserved : goal.loop-replica-preserved
loop-replica-preserved c =
    let P : Bor Held → Type 0 =
    λ r. (a b : Core) → Stores r.now.replica.chronicle a → KnownTo (judged c.args.replicas.now) b
    → Collide a b → ⊥ in
    All-more P c.args.replicas.now c.loop-replica.replica-index c.replica-item.result
    (omega (arith, c.loop-replica-test.true)) c.loop-replica.invariant
    (subst P c.replica-item.is c.in_default-collision_of.ensures)

pub returns : goal.returns
returns c =
    let rs = c.args.replicas.now in
    let P : Bor Held → Type 0 =
    λ r. (a b : Core) → Stores r.now.replica.chronicle a → KnownTo (judged rs) b → Collide a b → ⊥ in
    none-collide rs c.in_default.ensures
    (subst (All P) (take_all c.loop-replica.replica-index rs (omega (arith, c.loop-replica-test.false)))
    c.loop-replica.invariant)
