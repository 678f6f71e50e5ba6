-- Lists of parts, and what spells them.
use Rattle.std.specs.Prelude.{◌≡◌, ℕ, List, length}
use Rattle.std.specs.List.{flat_map, AllByRecursion}
use Rattle.ids.specs.Sizes.{Sizes}
use Rattle.definitions.specs.Bytes.{Bytes}
use Rattle.definitions.specs.Frames.{Vote, vote_bytes}
use Rattle.definitions.specs.FrameLimits.{IsVote}

-- the bytes spell so many votes, which are these
abbrev pub AreVotes : Sizes → ℕ → Bytes → List Vote → Type 0
AreVotes sizes count bytes vs =
    AllByRecursion (IsVote sizes) vs × (length vs ≡ count) × (bytes ≡ flat_map vote_bytes vs)
