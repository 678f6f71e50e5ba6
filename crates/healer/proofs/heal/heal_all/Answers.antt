use Rattle.std.proofs.Common.{◌++◌, arith, ap, refl, subst, ◌∙◌}
use Rattle.ids.specs.Sizes.{Sizes}
use Rattle.world_schedule.specs.Running.{IsRunOf}
use Rattle.world_schedule.specs.Settings.{Setting, Holds}
use Rattle.healer.specs.Courses.{Origin}
use Rattle.healer.proofs.Served.{turns-first, turns-next, has-clients, all-served}
use Rattle.healer.proofs.heal.heal_all.Goals as goal

pub loop-client-init : goal.loop-client-init
loop-client-init c = record { origin = refl; turns = turns-first c.in_ok-healer.healer }

pub loop-client-preserved : goal.loop-client-preserved
loop-client-preserved c = record {
  origin = c.heal_client.ensures.origin ∙ c.loop-client.invariant.origin;
  turns = turns-next c.loop-client.client c.in_ok-healer.healer c.loop-client.healer c.heal_client.new.self
      (has-clients c.args.world.now c.args.schedule.now c.loop-client.client c.in_ok-healer.healer
      c.in_ok-healer.ensures.ran
      (omega (arith, c.loop-client-test.true, c.clients-client-end.ensures, ap (λ (z : Sizes). z.clients) c.config.ensures)))
      c.loop-client.invariant.turns c.in_ok-heal_client.ensures.turn;
}

pub returns-clause-ran : goal.returns-clause-ran
returns-clause-ran c =
    subst (λ (o : Origin). IsRunOf o.setting (o.schedule ++ c.in_ok-events.events.items) c.in_ok-events.outcome)
    (c.loop-client.invariant.origin ∙ c.in_ok-healer.ensures.origin) c.in_ok-events.ensures.ran

pub returns-clause-served : goal.returns-clause-served
returns-clause-served c =
    let is = ap (λ (o : Origin). o.setting) (c.loop-client.invariant.origin ∙ c.in_ok-healer.ensures.origin) in
    all-served c.never_wedged.ensures c.waiting_clients_asked.ensures c.requests_name_clients.ensures c.args.world.now
    c.args.schedule.now c.loop-client.client c.in_ok-healer.healer c.loop-client.healer c.in_ok-events.outcome
    (c.holds.ensures.own ∙ is) (subst (λ (s : Setting). Holds s) is c.holds.ensures.world) c.in_ok-healer.ensures.ran
    (omega (arith, c.loop-client-test.false, c.loop-client.auto.client-end, c.clients-client-end.ensures, ap (λ (z : Sizes). z.clients) c.config.ensures))
    c.loop-client.invariant.turns c.in_ok-events.ensures.told
