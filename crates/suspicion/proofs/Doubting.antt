-- Whose votes are wrong, one vote after the other.
use Rattle.std.proofs.Common.{◌≡◌, ◌||◌, ◌==◌, ◌∷◌, ℕ, Bool, List, false, not, ap, sym}
use Rattle.std.proofs.lemmas.Bool.{and_right}
use Rattle.definitions.specs.Bytes.{Bytes}
use Rattle.definitions.specs.Checks.{identity_of, vote_verifies}
use Rattle.definitions.specs.Frames.{Vote}
use Rattle.definitions.specs.Keyrings.{Keys}
use Rattle.suspicion.specs.Doubting.{is_wrong_among}

-- a vote that is right makes nobody wrong
pub right-one : (was : Bool) (keys : Keys) (digest : Bytes) (voter : ℕ) (b : Vote) (rest all : List Vote)
    → all ≡ b ∷ rest → not (vote_verifies (identity_of keys) digest b) ≡ false
    → (was || is_wrong_among keys digest rest voter) ≡ (was || is_wrong_among keys digest all voter)
right-one was keys digest voter b rest all e right =
    rw e (ap (λ (m : Bool). was || (m || is_wrong_among keys digest rest voter))
    (sym (and_right (voter == b.voter) (not (vote_verifies (identity_of keys) digest b)) right)))
