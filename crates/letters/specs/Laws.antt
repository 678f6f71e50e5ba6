-- What holds of all letters.
use Rattle.std.specs.Prelude.{◌≡◌, ◌≤◌, length, Option, Some}
use Rattle.ids.specs.Sizes.{Sizes, AreSizes}
use Rattle.definitions.specs.Bytes.{Bytes}
use Rattle.definitions.specs.Frames.{Frame}
use Rattle.definitions.specs.FrameLimits.{Spells}
use Rattle.wire_frames.specs.Longest.{longest_frame, longest_item}
use Rattle.letters.specs.Letters.{Letter, frame, spelling, brought, IsLetter}
use Rattle.letters.specs.Reading.{IsReadAs}

-- a text is the spelling of one letter at most
abbrev pub TextsAreOfOne : Type 0
TextsAreOfOne = (a b : Letter) → IsLetter a → IsLetter b → spelling a ≡ spelling b → a ≡ b

-- what a letter's spelling is read as is that letter
abbrev pub AreReadBack : Type 0
AreReadBack = (letter : Letter) (read : Option Letter) → IsLetter letter → IsReadAs (spelling letter) read
    → read ≡ Some letter

-- Bytes that spell a frame of the grammar, in either version, are that frame as a letter, and no other letter's.
abbrev pub FramesAreLetters : Type 0
FramesAreLetters = (sizes : Sizes) (bytes : Bytes) (spelled : Frame) → Spells sizes bytes spelled
    → IsLetter (frame bytes)
    × ((letter : Letter) → IsLetter letter → bytes ≡ spelling letter → letter ≡ frame bytes)

-- A letter goes over a wire, where what it brings isn't longer than the longest frame.
abbrev pub LettersFit : Type 0
LettersFit = (sizes : Sizes) (letter : Letter) → AreSizes sizes → length (brought letter) ≤ longest_frame sizes
    → length (spelling letter) ≤ longest_item sizes
