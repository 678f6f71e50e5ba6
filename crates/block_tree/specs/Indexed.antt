-- The index from digests to numbers.
use Rattle.std.specs.Prelude.{ℕ, ◌==◌, Option, Some, None, if◌then◌else◌}
use Rattle.std.specs.Str.{bytes_eq}
use Rattle.std.specs.HashMap.{get}
use Rattle.definitions.specs.Bytes.{Bytes}
use Rattle.block_tree.specs.declared.index.Index.{Index}

-- the number that was entered for a digest
abbrev pub number_of : Index → Bytes → Option ℕ
number_of i d = get bytes_eq i.numbers d

-- a number that isn't this one
abbrev pub other_than : ℕ → Option ℕ → Option ℕ
other_than number o = elim o [ Some k ↦ if k == number then None else Some k | None ↦ None ]
