-- Shares made one after another.
use Rattle.std.proofs.Common.{◌≡◌, ℕ, ◌+◌, ◌++◌, List, replicate, ap, ◌∙◌}
use Rattle.std.proofs.lemmas.List.{append-nil, append_assoc, replicate_more}
use Rattle.locked_replica.specs.Kept.{KeptState}
use Rattle.station.specs.Stations.{shared}

pub shared_none : (kept : KeptState) → shared 0 kept ≡ kept
shared_none kept = ap (λ (shares : List ℕ). record kept { shares = shares }) (append-nil kept.shares)

pub shared_more : (n : ℕ) (kept : KeptState) → shared 1 (shared n kept) ≡ shared (n + 1) kept
shared_more n kept =
    ap (λ (shares : List ℕ). record kept { shares = shares })
    (append_assoc kept.shares (replicate n 0) (replicate 1 0)
    ∙ ap (λ (made : List ℕ). kept.shares ++ made) (replicate_more n 0))
