use Rattle.std.proofs.Common.{arith, rules, ◌<◌}
use Rattle.std.proofs.lemmas.Grind.{common_steps}
use Rattle.std.proofs.lemmas.Bool.Decides.{nat_tests}
use Rattle.std.proofs.lemmas.List.FromFn.{length-map-range_with_len}
use Rattle.ids.specs.Sizes.{replicas}
use Rattle.key_file.proofs.Found.{with_replicas, with_clients}
use Rattle.key_file.proofs.held_keys.HeldKeys.keyring.Goals as goal
use Rattle.key_file.proofs.held_keys.HeldKeys.keyring.Goals.{then-is_replica+in_ok-push_keys-2}
use Rattle.key_file.proofs.held_keys.HeldKeys.keyring.Goals.{else-is_replica}

pub push_keys-requires-clause-there : goal.push_keys-requires-clause-there
push_keys-requires-clause-there c =
    rw (c.into.ensures, c.n.ensures.count, ← c.self.view_is)
    (with_replicas c.self.inside.holder c.self.inside.config c.self.inside.keys.items c.args.party
    c.self.invariant (search rules) (omega arith) (search rules))

pub push_keys-requires-then-is_replica-clause-there : goal.push_keys-requires-then-is_replica-clause-there
push_keys-requires-then-is_replica-clause-there c =
    let low : c.args.party < replicas c.self.inside.config = grind (arith, nat_tests) in
    rw (c.into-then-is_replica.ensures, c.clients.ensures, ← c.self.view_is)
    (with_clients c.self.inside.holder c.self.inside.config c.self.inside.keys.items c.args.party
    c.self.invariant (search rules) (omega arith) low)

pub new-requires : goal.new-requires
new-requires c =
    elim c.if-is_replica.branch [
      | then-is_replica+in_ok-push_keys-2 w ↦ grind (arith, common_steps, length-map-range_with_len)
      | else-is_replica w ↦ grind (arith, common_steps, length-map-range_with_len)
    ]
