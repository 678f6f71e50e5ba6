use Rattle.std.proofs.Common.{◌≡◌, Bool, false, subst, sym, [], ◌∷◌, ◌++◌, List, refl, ap, ◌∙◌}
use Rattle.world_schedule.specs.declared.event.Event.{Event}
use Rattle.healer.proofs.Courses.{goes-on}
use Rattle.world_schedule.specs.Settings.{Holds}
use Rattle.healer.specs.Courses.{Course, Takes}
use Rattle.std.specs.Prelude.{◌==◌}
use Rattle.healer.specs.Supplied.{lacked}
use Rattle.healer.proofs.Supplied.{took, on-ok, on-err}
use Rattle.healer.proofs.healer.Healer.take.Goals as goal
use Rattle.healer.proofs.healer.Healer.take.Goals.{then-lacked, else-lacked}

pub invariant_of-self-2 : goal.invariant_of-self-2
invariant_of-self-2 c =
    goes-on c.self.inside.schedule.now c.self.inside.events.items c.push_reserved.new.self.items c.args.event
    c.self.inside.running c.happen.new.self c.self.invariant (c.in_ok-happen.ensures.goes refl)
    c.happen.ensures.same
    (c.push_reserved.ensures.items ∙ ap (λ (l : List Event). l ++ c.args.event ∷ []) c.reserve.ensures.items)
    (λ hs w t. c.in_ok-happen.ensures.happened hs w t)

abbrev Taken : goal.Joined-lacked → Type 0
Taken c = Takes c.args.self.now c.args.event (record {
  origin = record { setting = c.happen.new.self.setting; schedule = c.self.inside.schedule.now };
  added = c.push_reserved.new.self.items;
  stand = c.happen.new.self;
})

taken : (c : goal.Joined-lacked) → c.lacked_memory-lacked.result ≡ false → Taken c
taken c h =
    let told : lacked c.asks.result (c.count_frames.result == c.count_frames-before.result) c.last_answer.result ≡ false =
    sym c.lacked_memory-lacked.ensures ∙ h in
    subst (λ (x : Course). Takes x c.args.event (record {
      origin = record { setting = c.happen.new.self.setting; schedule = c.self.inside.schedule.now };
      added = c.push_reserved.new.self.items;
      stand = c.happen.new.self;
    })) c.self.view_is
    (λ hs w t. took c.args.event c.self.inside.running c.happen.new.self hs w c.last_answer.result
    c.count_frames-before.result c.count_frames.result (subst Holds c.world.ensures c.holds.ensures)
    c.happen.ensures.same t (c.in_ok-happen.ensures.happened hs w t) c.count_frames-before.ensures
    c.count_frames.ensures c.last_answer.ensures
    (subst (λ (b : Bool). lacked b (c.count_frames.result == c.count_frames-before.result) c.last_answer.result ≡ false)
    c.asks.ensures told))

pub returns-clause-taken : goal.returns-clause-taken
returns-clause-taken c = elim c.if-lacked.branch [
  | then-lacked w ↦ on-err (Taken c) c.if-lacked.result _ w.result-is
  | else-lacked w ↦ on-ok (Taken c) c.if-lacked.result _ (taken c w.if-lacked.false) w.result-is
]
