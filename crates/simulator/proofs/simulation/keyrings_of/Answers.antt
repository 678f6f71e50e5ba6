use Rattle.std.proofs.Common.{◌≡◌, ◌≤◌, ◌++◌, ◌∙◌, ℕ, List, ap, arith, rules, subst, sym}
use Rattle.ids.specs.Sizes.{replicas}
use Rattle.simulator.proofs.Keyrings.{replicas_keys, clients_keys, one_more_replica, one_more_client}
use Rattle.simulator.proofs.Keyrings.{are_keyrings}
use Rattle.simulator.specs.Simulations.{all_keys}
use Rattle.definitions.specs.Keyrings.{Keys}
use Rattle.world_schedule.specs.Settings.{AreKeyrings}
use Rattle.simulator.proofs.simulation.keyrings_of.Goals as goal

pub loop-replica-preserved : goal.loop-replica-preserved
loop-replica-preserved c = rw one_more_replica (search (
  rules,
  c.loop-replica.invariant,
  c.in_ok-push.ensures.items,
  c.in_ok-keyring_of.ensures.made,
  c.into.ensures,
))

pub loop-client-preserved : goal.loop-client-preserved
loop-client-preserved c = rw (one_more_client c.args.config
    (replicas_keys c.args.config (replicas c.args.config)) c.loop-client.client)
    (search (
      rules,
      c.loop-client.invariant,
      c.in_ok-push-2.ensures.items,
      c.in_ok-keyring_of-2.ensures.made,
      c.into-in-loop-client.ensures,
    ))

pub returns-clause-each : goal.returns-clause-each
returns-clause-each c =
    let sizes = c.args.config in
    let few : replicas sizes ≤ 256 = omega (arith, c.holds.ensures.1) in
    let all : c.loop-client.client ≡ sizes.clients = omega (
      arith,
      c.loop-client-test.false,
      c.loop-client.auto.client-end,
      c.clients-client-end.ensures,
    ) in
    let is : c.loop-client.keyrings.items ≡ all_keys sizes = c.loop-client.invariant
    ∙ ap (λ (n : ℕ). replicas_keys sizes (replicas sizes) ++ clients_keys sizes n) all in
    subst (λ (l : List Keys). AreKeyrings sizes l) (sym is) (are_keyrings sizes few)
