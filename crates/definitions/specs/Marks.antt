-- Marks: one word for each replica, which says how far it has executed, and the seats that put and see the
-- words.
use Rattle.std.specs.Prelude.{◌≡◌, ℕ, ◌<◌, ◌≤◌, List, length, slice_index, slice_set}
use mathlib.Core.Option.{some}
use lib.ListN.{get_elem?}

-- what a seat knows: it owns the words from `first` up to `end`, which it leaves out, has put this number
-- into each of them last, and has seen at most this in each word
pub record Sight : Type 0 where
  pub first : ℕ
  pub end : ℕ
  pub put : ℕ
  pub seen : List ℕ

-- the word is its own
abbrev pub Owns : Sight → ℕ → Type 0
Owns v i = (v.first ≤ i) × (i < v.end)

-- a word that the seat owns equals its put, and each word is at least what the seat has seen of it
pub record Fits (words : List ℕ) (v : Sight) : Type 0 where
  pub wide : length v.seen ≡ length words
  pub own : (i : ℕ) → Owns v i → slice_index words i ≡ v.put
  pub least : (i : ℕ) → slice_index v.seen i ≤ slice_index words i

-- the rule of the marks: every seat fits the words, and a word has one owner
pub record Marked (count : ℕ) (words : List ℕ) (seats : List Sight) : Type 0 where
  pub wide : length words ≡ count
  pub fits : (a : ℕ) (v : Sight) → get_elem? seats a ≡ some v → Fits words v
  pub one_owner : (a b : ℕ) (v w : Sight) (i : ℕ) → get_elem? seats a ≡ some v → get_elem? seats b ≡ some w
      → Owns v i → Owns w i → a ≡ b

-- it has seen this number in this word
abbrev pub sees : Sight → ℕ → ℕ → Sight
sees v i n = record v { seen = slice_set v.seen i n }

-- it has put this number into its word
abbrev pub puts : Sight → ℕ → ℕ → Sight
puts v i n = record v { put = n; seen = slice_set v.seen i n }

-- anyone loads a word: what is found is at least what was seen of it, and an owner's own put, and is seen
-- from then on
pub record Loads (i : ℕ) (v : Sight) (found : ℕ) (w : Sight) : Type 0 where
  pub least : slice_index v.seen i ≤ found
  pub own : Owns v i → found ≡ v.put
  pub seen : slice_index w.seen i ≡ found
  pub only : w ≡ sees v i found

-- its owner raises a word to a number by fetch_max
abbrev pub Raises : ℕ → Sight → ℕ → Sight → Type 0
Raises i v n w = w ≡ puts v i n
