-- Where what is borrowed lies: slices of one source, by content and by address.
use Rattle.std.specs.Prelude.{◌≡◌, ℕ, ◌+◌, take, drop, length}
use Rattle.std.specs.Borrow.{Bor}
use Rattle.definitions.specs.Bytes.{Bytes}

-- the part is what stands in the source from this place on
abbrev pub LiesAt : Bytes → ℕ → Bytes → Type 0
LiesAt source place part = part ≡ take (length part) (drop place source)

-- the same of what is borrowed, with its address: nothing was copied
abbrev pub LentAt : Bor Bytes → ℕ → Bor Bytes → Type 0
LentAt source place part = LiesAt source.now place part.now
    × (part.ref_ptr.0 ≡ source.ref_ptr.0) × (part.ref_ptr.1 ≡ source.ref_ptr.1 + place)

-- the rest is all that stands in the source from this place on
abbrev pub LeftAt : Bor Bytes → ℕ → Bor Bytes → Type 0
LeftAt source place rest = LentAt source place rest × (place + length rest.now ≡ length source.now)
