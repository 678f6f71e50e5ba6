-- What one process tells another one over a wire, and the one spelling of each letter.
use Rattle.std.specs.Prelude.{ℕ, ◌<◌, ◌≤◌, ◌^◌, ◌==◌, Bool, List, [], ◌∷◌, ◌++◌, length, slice_index, find, ⊤}
use Rattle.std.specs.Prelude.{Option, if◌then◌else◌}
use Rattle.std.specs.Int.{w32, w64, to_be_bytes}
use Rattle.definitions.specs.Bytes.{Bytes}
use Rattle.letters.specs.declared.letter.Letter as views
use Rattle.letters.specs.declared.letter.Letter.TheVariants.{Frame, Passed, Doubted, Asked, Recorded, Announced}
use Rattle.letters.specs.declared.letter.Letter.TheVariants.{Answered, Told}
use Rattle.letters.specs.declared.mark.Mark.{Mark}
use Rattle.letters.specs.declared.mark.Mark.TheVariants as mark
use Rattle.letters.specs.declared.mark.TheConstants.{FIRST_MARK}
use Rattle.letters.specs.declared.progress.Progress.{Progress}

-- ---- what a letter says

-- the eight kinds
pub data Letter : Type 0 where
  frame : (bytes : Bytes) → Letter
  passed : (request : Bytes) → Letter
  doubted : (voters : ℕ) → Letter
  asked : (from bytes : ℕ) → Letter
  recorded : (from : ℕ) (text : Bytes) → Letter
  announced : (from : ℕ) (text : Bytes) → Letter
  answered : (from bytes : ℕ) (is_last : Bool) → Letter
  told : Progress → Letter

-- the letter that a view shows
abbrev pub letter_of : views.Letter → Letter
letter_of (Frame bytes) = frame bytes.now
letter_of (Passed request) = passed request.now
letter_of (Doubted voters) = doubted voters
letter_of (Asked from bytes) = asked from bytes
letter_of (Recorded from text) = recorded from text.now
letter_of (Announced from text) = announced from text.now
letter_of (Answered from bytes is_last) = answered from bytes is_last
letter_of (Told progress) = told progress

-- ---- how it is spelled

-- the byte that a letter begins with, but for a frame
abbrev pub mark_number : Mark → ℕ
mark_number mark.Passed = 193
mark_number mark.Doubted = 194
mark_number mark.Asked = 195
mark_number mark.Recorded = 196
mark_number mark.Announced = 197
mark_number mark.Answered = 198
mark_number mark.Told = 199

-- all marks
abbrev pub marks : List Mark
marks = mark.Passed ∷ mark.Doubted ∷ mark.Asked ∷ mark.Recorded ∷ mark.Announced ∷ mark.Answered ∷ mark.Told ∷ []

-- the mark of a number, if it is one
abbrev pub mark_numbered : ℕ → Option Mark
mark_numbered number = find (λ mark. mark_number mark == number) marks

-- a byte that says yes or no
abbrev pub flag : Bool → ℕ
flag says = if says then 1 else 0

-- how far a replica is: four numbers and two flags
abbrev pub progress_text : Progress → Bytes
progress_text p = to_be_bytes w64 p.height ++ to_be_bytes w64 p.horizon ++ to_be_bytes w64 p.recorded
    ++ to_be_bytes w64 p.view ++ flag p.goes_on ∷ flag p.is_away ∷ []

-- the bytes of a letter: a frame's are its own, and all others begin with a mark
abbrev pub spelling : Letter → Bytes
spelling (frame bytes) = bytes
spelling (passed request) = mark_number mark.Passed ∷ request
spelling (doubted voters) = mark_number mark.Doubted ∷ to_be_bytes w32 voters
spelling (asked from bytes) = mark_number mark.Asked ∷ to_be_bytes w64 from ++ to_be_bytes w64 bytes
spelling (recorded from text) = mark_number mark.Recorded ∷ to_be_bytes w64 from ++ text
spelling (announced from text) = mark_number mark.Announced ∷ to_be_bytes w64 from ++ text
spelling (answered from bytes is_last) =
    mark_number mark.Answered ∷ to_be_bytes w64 from ++ to_be_bytes w64 bytes ++ flag is_last ∷ []
spelling (told progress) = mark_number mark.Told ∷ progress_text progress

-- what a letter brings that another party made: a frame, or a request
abbrev pub brought : Letter → Bytes
brought (frame bytes) = bytes
brought (passed request) = request
brought (recorded from text) = text
brought (announced from text) = text
brought letter = []

-- ---- which letters there are

-- bytes, of which the first is no mark
abbrev pub IsUnmarked : Bytes → Type 0
IsUnmarked bytes = (1 ≤ length bytes) × (slice_index bytes 0 < FIRST_MARK)

-- numbers of eight bytes
pub record IsProgress (p : Progress) : Type 0 where
  pub height : p.height < 2 ^ 64
  pub horizon : p.horizon < 2 ^ 64
  pub recorded : p.recorded < 2 ^ 64
  pub view : p.view < 2 ^ 64

-- the letters that there are
abbrev pub IsLetter : Letter → Type 0
IsLetter (frame bytes) = IsUnmarked bytes
IsLetter (passed request) = ⊤
IsLetter (doubted voters) = voters < 2 ^ 32
IsLetter (asked from bytes) = (from < 2 ^ 64) × (bytes < 2 ^ 64)
IsLetter (recorded from text) = from < 2 ^ 64
IsLetter (announced from text) = from < 2 ^ 64
IsLetter (answered from bytes is_last) = (from < 2 ^ 64) × (bytes < 2 ^ 64)
IsLetter (told progress) = IsProgress progress
