use Rattle.std.proofs.Common.{◌≡◌, ◌≤◌, sym, subst, ap, arith, rules, nat_le}
use Rattle.std.proofs.lemmas.Map.Made.{filter_same_pairs}
use Rattle.doorkeeper.specs.Doors.{DoorState, remembered}
use Rattle.doorkeeper.specs.Rows.{AreCounts}
use Rattle.doorkeeper.proofs.Counted.{counted-forgotten}
use Rattle.doorkeeper.proofs.Remembering.{remembered-again, remembered-same}
use Rattle.doorkeeper.proofs.door.Doorkeeper.forget_below.Goals as goal

pub returns-then-base-self-clause-taken : goal.returns-then-base-self-clause-taken
returns-then-base-self-clause-taken c =
    let own : c.self-inside.inside.0.1.0.0 ≡ c.self.inside.base = ap (λ k. k.base) c.self-inside.view_is in
    let low : c.args.base ≤ c.self.inside.base = omega (arith, own, c.base.view_is, c.if-base-self.true) in
    subst (λ (d : DoorState). d.taken ≡ remembered c.args.base d.taken) c.self.view_is
    (sym (remembered-same c.args.base c.self.inside.base c.self.inside.all.items low))

pub invariant_of-self : goal.invariant_of-self
invariant_of-self c =
    let own : c.self-inside.inside.0.1.0.0 ≡ c.self.inside.base = ap (λ k. k.base) c.self-inside.view_is in
    let high : c.self.inside.base ≤ c.args.base = omega (arith, own, c.base.view_is, c.if-base-self.false) in (
      c.self.invariant.0,
      c.self.invariant.1,
      subst (AreCounts c.self.inside.replicas c.retain.new.self)
          (remembered-again c.args.base c.self.inside.base c.self.inside.all.items high)
          (counted-forgotten c.self.inside.replicas c.self.inside.rows c.retain.new.self _ c.args.base
          c.self.invariant.2
          (filter_same_pairs _ (λ e. nat_le c.args.base e.0) _ (λ k v b w g call. search rules) _ _
          c.retain.ensures.filtered)),
    )

pub returns-clause-taken : goal.returns-clause-taken
returns-clause-taken c =
    let own : c.self-inside.inside.0.1.0.0 ≡ c.self.inside.base = ap (λ k. k.base) c.self-inside.view_is in
    let high : c.self.inside.base ≤ c.args.base = omega (arith, own, c.base.view_is, c.if-base-self.false) in
    subst (λ (d : DoorState). remembered c.args.base c.self.inside.all.items ≡ remembered c.args.base d.taken)
    c.self.view_is
    (sym (remembered-again c.args.base c.self.inside.base c.self.inside.all.items high))
