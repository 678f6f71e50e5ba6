-- What bytes are read as: the letter that they spell.
use Rattle.std.specs.Prelude.{◌≡◌, ℕ, ◌==◌, nat_lt, ⊤, Bool, true, false, length, take, drop, slice_index}
use Rattle.std.specs.Prelude.{Option, Some, None, option_map, if◌then◌else◌}
use Rattle.std.specs.Option.{option_and_then}
use Rattle.std.specs.Int.{w32, w64, from_be_bytes}
use Rattle.std.specs.Borrow.{Bor}
use Rattle.definitions.specs.Bytes.{Bytes}
use Rattle.definitions.specs.Slices.{LeftAt}
use Rattle.letters.specs.declared.letter.Letter as views
use Rattle.letters.specs.declared.letter.Letter.TheVariants.{Frame, Passed, Recorded, Announced}
use Rattle.letters.specs.declared.mark.Mark.{Mark}
use Rattle.letters.specs.declared.mark.Mark.TheVariants as mark
use Rattle.letters.specs.declared.mark.TheConstants.{FIRST_MARK}
use Rattle.letters.specs.Letters.{Letter, frame, passed, doubted, asked, recorded, announced, answered, told}
use Rattle.letters.specs.Letters.{spelling, IsLetter, mark_numbered}

-- ---- what reading says

-- The letter that bytes are read as is one, and they are its spelling; where there is none, they spell none.
abbrev pub IsReadAs : Bytes → Option Letter → Type 0
IsReadAs text (Some letter) = IsLetter letter × (text ≡ spelling letter)
IsReadAs text None = (letter : Letter) → IsLetter letter → text ≡ spelling letter → ⊥

-- the bytes that a letter lends stand at the end of its text, behind the mark and the height: nothing was copied
abbrev pub IsLentBy : (source : Bor Bytes) → views.Letter → Type 0
IsLentBy source (Frame bytes) = LeftAt source 0 bytes
IsLentBy source (Passed request) = LeftAt source 1 request
IsLentBy source (Recorded from text) = LeftAt source 9 text
IsLentBy source (Announced from text) = LeftAt source 9 text
IsLentBy source letter = ⊤

-- ---- how it is read

-- the number of eight bytes at a place
abbrev pub number_at : Bytes → (place : ℕ) → ℕ
number_at text place = from_be_bytes w64 (take 8 (drop place text))

-- what a byte says of yes or no
abbrev pub flag_in : ℕ → Option Bool
flag_in byte = if byte == 0 then Some false else if byte == 1 then Some true else None

-- a height behind the mark, and what stands behind that
abbrev pub height_in : Bytes → Option (ℕ × Bytes)
height_in text = if nat_lt (length text) 9 then None else Some (number_at text 1, drop 9 text)

-- so many bytes, and a letter of them
abbrev pub of_len : ℕ → Bytes → Option Letter → Option Letter
of_len len text letter = if length text == len then letter else None

-- an answer's end, where it says whether it was the last
abbrev pub answered_in : Bytes → Option Bool → Option Letter
answered_in text None = None
answered_in text (Some is_last) = Some (answered (number_at text 1) (number_at text 9) is_last)

-- how far a replica is, where it says whether it goes on, and whether it is away
abbrev pub told_in : Bytes → Option Bool → Option Bool → Option Letter
told_in text (Some goes_on) (Some is_away) = Some (told (record {
  height = number_at text 1;
  horizon = number_at text 9;
  recorded = number_at text 17;
  view = number_at text 25;
  goes_on = goes_on;
  is_away = is_away;
}))
told_in text goes_on is_away = None

-- the letter of a text that begins with this mark
abbrev pub marked_in : Bytes → Mark → Option Letter
marked_in text mark.Passed = Some (passed (drop 1 text))
marked_in text mark.Doubted = of_len 5 text (Some (doubted (from_be_bytes w32 (take 4 (drop 1 text)))))
marked_in text mark.Asked = of_len 17 text (Some (asked (number_at text 1) (number_at text 9)))
marked_in text mark.Recorded = option_map (λ p. recorded p.0 p.1) (height_in text)
marked_in text mark.Announced = option_map (λ p. announced p.0 p.1) (height_in text)
marked_in text mark.Answered = of_len 18 text (answered_in text (flag_in (slice_index text 17)))
marked_in text mark.Told =
    of_len 35 text (told_in text (flag_in (slice_index text 33)) (flag_in (slice_index text 34)))

-- the letter of a text: a frame where it begins with no mark
abbrev pub letter_in : Bytes → Option Letter
letter_in text =
    if length text == 0 then None else if nat_lt (slice_index text 0) FIRST_MARK then Some (frame text)
    else option_and_then (marked_in text) (mark_numbered (slice_index text 0))
