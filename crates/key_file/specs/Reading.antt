-- What is read at the front of a text.
use Rattle.std.specs.Prelude.{◌≡◌, ◌≢◌, ℕ, List, ◌++◌, Option, Some, None}
use Rattle.std.specs.List.{flat_map}
use Rattle.hex.specs.Hex.{encode_lower}
use Rattle.definitions.specs.Bytes.{Bytes}
use Rattle.key_file.specs.declared.pair_key.PairKey.{PairKey}
use Rattle.key_file.specs.KeyFile.{AreOf, IsKey, line_of}

-- what stands behind this front of a text, if the text has it
abbrev pub IsBehind : Bytes → Bytes → Option Bytes → Type 0
IsBehind front text None = (rest : Bytes) → text ≢ front ++ rest
IsBehind front text (Some rest) = text ≡ front ++ rest

-- the key that digits write, if they write one
abbrev pub IsDigitsOf : Bytes → Option Bytes → Type 0
IsDigitsOf digits None = (key : Bytes) → IsKey key → digits ≢ encode_lower key
IsDigitsOf digits (Some key) = IsKey key × (digits ≡ encode_lower key)

-- the key in a line at the front of a text, and what stands behind the line, if the text begins with such a
-- line
abbrev pub IsKeyAt : (Bytes → Bytes) → Bytes → Option (Bytes × Bytes) → Type 0
IsKeyAt line text None = (key : Bytes) (rest : Bytes) → IsKey key → text ≢ line key ++ rest
IsKeyAt line text (Some (key, rest)) = IsKey key × (text ≡ line key ++ rest)

-- the text begins with the lines of these keys, which are of these pairs, and this stands behind them
pub record Reads (ps : List (ℕ × ℕ)) (text : Bytes) (keys : List PairKey) (rest : Bytes) : Type 0 where
  pub are : AreOf ps keys
  pub is : text ≡ flat_map line_of keys ++ rest

-- the text doesn't begin with lines of these pairs
abbrev pub HasNo : List (ℕ × ℕ) → Bytes → Type 0
HasNo ps text = (keys : List PairKey) (rest : Bytes) → Reads ps text keys rest → ⊥
