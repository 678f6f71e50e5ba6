use Rattle.std.proofs.Common.{◌≡◌, ◌≤◌, vec_len, vec_capacity}
use Rattle.fabric.proofs.client_links.both_ends.Given as goal

-- both have as many as were made, and room for all
abbrev pub invariant-loop : goal.invariant-loop
invariant-loop l =
    (vec_len l.starts ≡ l.counter) × (vec_len l.ends ≡ l.counter) × (l.count ≤ vec_capacity l.starts)
    × (l.count ≤ vec_capacity l.ends)
