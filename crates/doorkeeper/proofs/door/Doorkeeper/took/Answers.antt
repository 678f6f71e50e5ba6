use Rattle.std.proofs.Common.{ℕ, ◌≡◌, ◌<◌, ◌≤◌, ◌+◌, ◌∙◌, sym, ap, subst, arith, ◌∷◌, IsTrue, cond, ◌==◌}
use Rattle.std.proofs.Common.{List, Some, nat_eq, nat_le}
use Rattle.std.proofs.lemmas.Bool.{ltb-true, le-leb, cond-true, and_parts}
use Rattle.std.specs.HashMap.{Updates}
use Rattle.doorkeeper.specs.declared.brought.Brought.{Brought}
use Rattle.ids.specs.declared.limits.TheConstants.{MOST_REPLICAS}
use Rattle.doorkeeper.specs.Doors.{DoorState, brought, most_of_each, passes, remembered}
use Rattle.doorkeeper.specs.Rows.{AreCounts}
use Rattle.doorkeeper.proofs.Counted.{counted-more}
use Rattle.doorkeeper.proofs.door.Doorkeeper.took.Goals as goal

pub add_one-requires-clause-few : goal.add_one-requires-clause-few
add_one-requires-clause-few c =
    let passed = and_parts _ _ c.requires.passes in
    let few : brought c.args.block.now.height c.args.block.now.payer c.args.self.now.taken
    < most_of_each c.args.self.now.replicas = ltb-true _ _ passed.1 in
    let most : most_of_each c.args.self.now.replicas ≤ 4 = omega arith in
    let own = ap (λ (d : DoorState). d.replicas) c.self.view_is in
    let known : c.args.block.now.payer < MOST_REPLICAS =
    omega (arith, ltb-true _ _ passed.0, own, c.self.invariant.1) in
    omega (arith, c.row-row.ensures c.args.block.now.payer known, few, most)

pub invariant_of-self : goal.invariant_of-self
invariant_of-self c =
    let base = c.self.inside.base in
    let before : List Brought = remembered c.self.inside.base c.self.inside.all.items in
    let b : Brought = c.args.block.now in
    let own : c.self-inside.inside.0.1.0.0 ≡ c.self.inside.base = ap (λ k. k.base) c.self-inside.view_is in
    let high : c.self.inside.base ≤ c.args.block.now.height =
    omega (arith, own, c.height.view_is, c.if-height-self.false) in
    let grown : remembered base c.with-self-inside.result.items ≡ b ∷ before =
    ap (remembered base) c.with-self-inside.ensures
    ∙ cond-true (nat_le base c.args.block.now.height) (b ∷ before)
    before (le-leb base c.args.block.now.height high) in
    let passed : IsTrue (passes c.self.inside.replicas b before) =
    subst (λ (d : DoorState). IsTrue (passes d.replicas b d.taken)) (sym c.self.view_is) c.requires.passes
    in (
      c.self.invariant.0,
      c.self.invariant.1,
      subst (AreCounts c.self.inside.replicas c.insert-inserted.new.self) (sym grown)
          (counted-more c.self.inside.replicas c.self.inside.rows c.insert-inserted.new.self before b
          c.add_one.new.self c.self.invariant.2 passed
          (subst (λ (h : ℕ). Updates nat_eq c.self.inside.rows c.insert-inserted.new.self h
          (Some c.add_one.new.self))
          c.height-2.view_is (rw c.unwrap-before.ensures at c.insert-inserted.ensures.updates))
          (λ other l. c.add_one.ensures other
          ∙ ap (λ (k : ℕ). cond (other == c.args.block.now.payer) (k + 1) k)
          (c.row-row.ensures other l
          ∙ sym (ap (λ (d : DoorState). brought b.height other d.taken) c.self.view_is)))),
    )
