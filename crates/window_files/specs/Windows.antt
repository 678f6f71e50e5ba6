-- Which windows are replicas' own.
use Rattle.std.specs.Prelude.{◌≡◌, ℕ, ◌+◌, ◌-◌, List, [], ◌∷◌, length, max, Option, Some, option_map, ⊤}
use Rattle.std.specs.List.{AllByRecursion}
use Rattle.ids.specs.declared.limits.TheConstants.{BELOW_HORIZON}
use Rattle.ids.specs.Sizes.{Sizes}
use Rattle.definitions.specs.Bytes.{Bytes}
use Rattle.definitions.specs.Digests.{digest_of}
use Rattle.definitions.specs.Chronicles.{Chronicle, horizon}
use Rattle.definitions.specs.Audit.{Member, Judged}
use Rattle.definitions.specs.WindowAudit.{last_block, shown_at}
use Rattle.window_files.specs.Files.{Window, IsDigest, shown}
use Rattle.window_files.specs.declared.head.Head.{Head}

-- the digest that a replica's window shows at a height
abbrev pub told_at : Chronicle → ℕ → Option Bytes
told_at c h = option_map digest_of (shown_at h c)

-- it has the replica's number and last height, and shows at each height what the replica's window shows
pub record IsWindowOf (w : Window) (m : Member) : Type 0 where
  pub number : w.head.number ≡ m.number
  pub height : w.head.height ≡ length (last_block m)
  pub shows : (h : ℕ) → shown h w ≡ told_at m.replica.chronicle h

-- so is each of these, in the same order
abbrev pub AreOf : List Window → Judged → Type 0
AreOf [] [] = ⊤
AreOf (w ∷ ws) (m ∷ ms) = IsWindowOf w m × AreOf ws ms
AreOf _ _ = ⊥

-- what the first lines say of a replica
abbrev pub head_of : Sizes → Member → Head
head_of sizes m = record {
  config = sizes;
  number = m.number;
  height = length (last_block m);
  lowest = max (horizon m.replica.chronicle - BELOW_HORIZON) 1;
}

-- these are the digests that it shows from a height on
abbrev pub AreTold : Chronicle → ℕ → List Bytes → Type 0
AreTold c h [] = ⊤
AreTold c h (d ∷ ds) = (Some d ≡ told_at c h) × AreTold c (h + 1) ds

-- so many of them
pub record AreShown (c : Chronicle) (lowest count : ℕ) (ds : List Bytes) : Type 0 where
  pub fit : AllByRecursion IsDigest ds
  pub long : length ds ≡ count
  pub told : AreTold c lowest ds
