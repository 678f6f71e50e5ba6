-- The audit of replicas that may have pruned: what their windows still show of one another's executed blocks,
-- by digests.
use Rattle.std.specs.Prelude.{ℕ, ◌≡◌, ◌<◌, ◌≤◌, ◌==◌, ◌&&◌, ◌||◌, ◌∷◌, ◌++◌, length, if◌then◌else◌, nat_le}
use Rattle.std.specs.Prelude.{Option, None, Some, option_map}
use Rattle.definitions.specs.Bytes.{Bytes}
use Rattle.definitions.specs.Lists.{beginning, Among}
use Rattle.definitions.specs.Branches.{Branch, Conflict}
use Rattle.definitions.specs.Digests.{digest_of}
use Rattle.definitions.specs.Trees.{is_in_reach}
use Rattle.definitions.specs.Chronicles.{Chronicle, executed, horizon}
use Rattle.definitions.specs.Audit.{Member, Judged}

-- the block of this height on the executed branch, where the window still has it; it always has genesis
unfoldable pub shown_at : ℕ → Chronicle → Option Branch
shown_at height c =
    let b = beginning height (executed c) in
    if nat_le height (length (executed c)) && (is_in_reach (horizon c) b || (height == 0)) then Some b else None

-- a member's last executed block
abbrev pub last_block : Member → Branch
last_block m = executed m.replica.chronicle

-- the digest of the block that m's window shows at the height of k's last executed block
abbrev pub shown_for : (k m : Member) → Option Bytes
shown_for k m = option_map digest_of (shown_at (length (last_block k)) m.replica.chronicle)

-- m's window shows k's last executed block
abbrev pub Meets : (k m : Member) → Type 0
Meets k m = shown_for k m ≡ Some (digest_of (last_block k))

-- it shows another block at that height
abbrev pub Differs : (k m : Member) → Type 0
Differs k m = (d : Bytes) × (shown_for k m ≡ Some d) × (d ≡ digest_of (last_block k) → ⊥)

-- it shows none there
abbrev pub Misses : (k m : Member) → Type 0
Misses k m = shown_for k m ≡ None

-- m is the first of those that executed highest
pub record Leads (ks : Judged) (m : Member) : Type 0 where
  pub before : Judged
  pub behind : Judged
  pub are : before ++ m ∷ behind ≡ ks
  pub above : (k : Member) → Among k before → length (last_block k) < length (last_block m)
  pub highest : (k : Member) → Among k behind → length (last_block k) ≤ length (last_block m)

-- what is said of windows, with the numbers of two replicas
pub data WindowVerdict : Type 0 where
  agree : WindowVerdict
  fork : (lower higher : ℕ) → WindowVerdict
  unmet : (lower higher : ℕ) → WindowVerdict

-- a judged replica of the number a stands so to the one that leads, whose number is b
pub record Stands (R : Member → Member → Type 0) (ks : Judged) (a b : ℕ) : Type 0 where
  pub lower : Member
  pub higher : Member
  pub judged : Among lower ks
  pub leads : Leads ks higher
  pub lower_number : lower.number ≡ a
  pub higher_number : higher.number ≡ b
  pub related : R lower higher

-- Each is held against the one that leads. Where its window shows each one's last executed block, they agree;
-- where it shows another block for one of them, they fork; where it does so for none, and shows no block for
-- one of them, that one is unmet.
abbrev pub WindowsShow : Judged → WindowVerdict → Type 0
WindowsShow ks agree = (m : Member) × Leads ks m × ((k : Member) → Among k ks → Meets k m)
WindowsShow ks (fork a b) = Stands Differs ks a b
WindowsShow ks (unmet a b) =
    (s : Stands Misses ks a b) × ((k : Member) → Among k ks → Differs k s.higher → ⊥)

-- the last executed blocks conflict
abbrev pub BlocksConflict : (k m : Member) → Type 0
BlocksConflict k m = Conflict (last_block k) (last_block m)
