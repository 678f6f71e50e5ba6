use Rattle.std.proofs.Common.{arith}
use Rattle.std.proofs.lemmas.Grind.{common_steps}
use Rattle.simulated_keys.proofs.KeyCounts.{length_keys}
use Rattle.simulated_keys.proofs.keyring_of.Goals as goal
use Rattle.simulated_keys.proofs.keyring_of.Goals.{then-party-from+in_ok-push_keys-2, else-party-from}

pub new-requires : goal.new-requires
new-requires c =
    elim c.if-party-from.branch [
      | then-party-from+in_ok-push_keys-2 w ↦ grind (arith, common_steps, length_keys)
      | else-party-from w ↦ grind (arith, common_steps, length_keys)
    ]
