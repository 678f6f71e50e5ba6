-- The numbers of blocks, in order of insertion: genesis has 0. A tree lists its blocks newest first.
use Rattle.std.specs.Prelude.{count_by, ◌≡◌, ◌==◌, ◌+◌, ◌-◌, ◌<◌, ◌≤◌, ◌^◌, ℕ, suc, get_or, List, [], ◌∷◌}
use Rattle.std.specs.Prelude.{length, drop, slice_get, MatchOption, Option, Some, None, if◌then◌else◌, nat_le}
use Rattle.std.specs.Str.{bytes_eq}
use Rattle.ids.specs.declared.limits.TheConstants.{BELOW_HORIZON}
use Rattle.definitions.specs.Bytes.{Bytes}
use Rattle.definitions.specs.Lists.{Among}
use Rattle.definitions.specs.Branches.{Branch}
use Rattle.definitions.specs.Digests.{digest_of}
use Rattle.definitions.specs.Trees.{Stored, blocks, is_in_reach}

-- the number of the stored block of this digest
unfoldable pub stored_number : Bytes → List Stored → Option ℕ
stored_number d [] = None
stored_number d (s ∷ older) =
    if bytes_eq (digest_of s.branch) d then Some (suc (length older)) else stored_number d older

-- the stored block of this number
unfoldable pub nth_stored : List Stored → ℕ → Option Stored
nth_stored [] k = None
nth_stored (s ∷ older) k = if k == suc (length older) then Some s else nth_stored older k

-- a number that is no lower than the first one
abbrev pub from_number : ℕ → Option ℕ → Option ℕ
from_number first o = elim o [ Some k ↦ if nat_le first k then Some k else None | None ↦ None ]

-- a block that stands above the horizon
abbrev pub if_standing : ℕ → Option Stored → Option Stored
if_standing horizon o =
    elim o [ Some s ↦ if is_in_reach horizon s.branch then Some s else None | None ↦ None ]

-- the block of this number
unfoldable pub numbered : List Branch → ℕ → Branch
numbered [] k = []
numbered (b ∷ older) k = if k == length older then b else numbered older k

-- m is the number of the block so many blocks below b
pub record IsDown (tree : List Branch) (distance : ℕ) (b : Branch) (m : ℕ) : Type 0 where
  pub known : m < length tree
  pub high : distance ≤ length b
  pub is : numbered tree m ≡ drop distance b

-- The links of b lead to the blocks 1, 2, 4 and so on below it, as far down as these are in reach. What was
-- in reach once may be no more.
abbrev pub AreLinks : ℕ → List Branch → Branch → List ℕ → Type 0
AreLinks horizon tree b links =
    (i : ℕ) → MatchOption (slice_get links i) (length b < 2 ^ i + (horizon - BELOW_HORIZON))
    (λ m. 2 ^ i + (horizon - BELOW_HORIZON) ≤ length b → IsDown tree (2 ^ i) b m)

-- ---- counts

-- how many blocks there are of each height from a base on
pub record CountsState : Type 0 where
  pub base : ℕ
  pub heights : List ℕ

-- how many there are of a height that is no lower than the base
abbrev pub count_of : CountsState → ℕ → ℕ
count_of counts h = get_or counts.heights (h - counts.base) 0

-- they are those of the stored blocks, and reach up to the highest
pub record AreCounts (counts : CountsState) (stored : List Stored) : Type 0 where
  pub right : (h : ℕ) → counts.base ≤ h → count_of counts h ≡ count_by (λ b. length b == h) (blocks stored)
  pub some : 0 < counts.base
  pub low : (s : Stored) → Among s stored → counts.base ≤ length s.branch
  pub high : (b : Branch) → Among b (blocks stored) → length b < counts.base + length counts.heights
