use Rattle.std.proofs.Common.{◌≡◌, ◌≤◌, vec_len, vec_capacity}
use Rattle.fabric.proofs.links.inboxes.Given as goal

-- both have as many as were made, and room for all
abbrev pub invariant-loop : goal.invariant-loop
invariant-loop l =
    (vec_len l.links ≡ l.counter) × (vec_len l.ends ≡ l.counter) × (l.count ≤ vec_capacity l.links)
    × (l.count ≤ vec_capacity l.ends)
