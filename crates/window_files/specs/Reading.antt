-- What is read of a text.
use Rattle.std.specs.Prelude.{◌≡◌, ◌≢◌, ℕ, ◌≤◌, List, ◌++◌, length, Option, Some, None}
use Rattle.std.specs.List.{AllByRecursion, flat_map}
use Rattle.definitions.specs.Bytes.{Bytes}
use Rattle.window_files.specs.Files.{IsDigest, digest_line}

-- a number is within these limits
abbrev pub IsWithin : ℕ → ℕ → ℕ → Type 0
IsWithin least most n = (least ≤ n) × (n ≤ most)

-- the digest in a line at the front of a text, and what stands behind that line, if the text begins with such a line
abbrev pub IsDigestAt : Bytes → Option (Bytes × Bytes) → Type 0
IsDigestAt text None = (d : Bytes) (rest : Bytes) → IsDigest d → text ≢ digest_line d ++ rest
IsDigestAt text (Some (d, rest)) = IsDigest d × (text ≡ digest_line d ++ rest)

-- the text is the lines of these digests, so many
abbrev pub AreDigestsOf : ℕ → List Bytes → Bytes → Type 0
AreDigestsOf count digests text =
    (length digests ≡ count) × AllByRecursion IsDigest digests × (text ≡ flat_map digest_line digests)
