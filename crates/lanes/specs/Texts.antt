-- Texts that stand behind one block which was hashed before them.
use Rattle.std.specs.Prelude.{◌≡◌, ℕ, ◌<◌, ◌+◌, ◌*◌, ◌/◌, List, ◌++◌, length, take, drop, slice_index}
use Rattle.sha2.specs.Sha256.{hash_after, padding}

-- a text behind one block, and the padding of both
abbrev pub tail : List ℕ → List ℕ
tail m = m ++ padding (64 + length m)

-- how many blocks a text of n bytes and its padding are
abbrev pub blocks_of : ℕ → ℕ
blocks_of n = (n + 8) / 64 + 1

abbrev pub block_at : List ℕ → ℕ → List ℕ
block_at p i = take 64 (drop (i * 64) p)

-- the hash value after the first block of a text, from that of the block before it
abbrev pub after_first : List ℕ → List ℕ → List ℕ
after_first h m = hash_after h (tail m) 1

-- the hash value after a text, from that of the block before it
abbrev pub after_text : List ℕ → List ℕ → List ℕ
after_text h m = hash_after h (tail m) (blocks_of (length m))

-- the block shows these bytes from `start` on, and zeros behind their end
abbrev pub IsWindow : List ℕ → ℕ → List ℕ → Type 0
IsWindow block start m = (k : ℕ) → k < 64 → slice_index block k ≡ slice_index m (start + k)
