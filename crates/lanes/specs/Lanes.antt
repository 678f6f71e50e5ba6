-- What stands in one lane of vectors, and the words of blocks that the rounds read.
use Rattle.std.specs.Prelude.{◌≡◌, ℕ, ◌<◌, ◌*◌, List, [], ◌∷◌, length, slice_index, slice_index_or}
use Rattle.sha2.specs.Sha256.{add32, round_constants, schedule, word_at}

-- a vector of four lanes, of which lane j is x
pub record HasLane (v : List ℕ) (j x : ℕ) : Type 0 where
  pub long : length v ≡ 4
  pub is : slice_index v j ≡ x

-- lane j of vector i of these
abbrev pub at : List (List ℕ) → ℕ → ℕ → ℕ
at vs i j = slice_index (slice_index_or vs i []) j

-- lane j of the eight vectors of a group: a hash value
abbrev pub state_lane : List (List ℕ) → ℕ → List ℕ
state_lane vs j =
    at vs 0 j ∷ at vs 1 j ∷ at vs 2 j ∷ at vs 3 j ∷ at vs 4 j ∷ at vs 5 j ∷ at vs 6 j ∷ at vs 7 j ∷ []

-- lane j of group g of these
abbrev pub group_lane : List (List (List ℕ)) → ℕ → ℕ → List ℕ
group_lane groups g j = state_lane (slice_index_or groups g []) j

-- lane j of the first sixteen vectors holds the words of the block b (FIPS 180-4, 5.2.1)
abbrev pub HasWords : List (List ℕ) → ℕ → List ℕ → Type 0
HasWords vs j b = (i : ℕ) → i < 16 → at vs i j ≡ word_at b (4 * i)

-- lane j of these vectors holds W t of the block b, for each round t (6.2.2, step 1)
abbrev pub HasSchedule : List (List ℕ) → ℕ → List ℕ → Type 0
HasSchedule vs j b = (t : ℕ) → t < 64 → at vs t j ≡ slice_index (schedule b 48) t

-- lane j of these vectors holds K t + W t of the block b, for each round t
abbrev pub HasKeyedSchedule : List (List ℕ) → ℕ → List ℕ → Type 0
HasKeyedSchedule vs j b =
    (t : ℕ) → t < 64 → at vs t j ≡ add32 (slice_index round_constants t) (slice_index (schedule b 48) t)
