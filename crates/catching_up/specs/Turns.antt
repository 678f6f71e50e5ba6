-- Whose turn it is.
use Rattle.std.specs.Prelude.{ℕ, ◌==◌, if◌then◌else◌}
use Rattle.asking.specs.Asking.{one_behind}

-- the one behind a peer, of n, but for the replica itself
abbrev pub next_peer : (n own peer : ℕ) → ℕ
next_peer n own peer =
    if one_behind n peer == own then one_behind n (one_behind n peer) else one_behind n peer
