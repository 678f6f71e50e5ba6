-- A text is of one letter, and that of a frame is the frame.
use Rattle.std.proofs.Common.{◌≡◌, ◌∙◌, ◌<◌, Option, Some, None, refl, sym, ap, subst, inl, inr, arith}
use Rattle.std.proofs.lemmas.Option.{same_Some}
use Rattle.ids.specs.Sizes.{Sizes}
use Rattle.ids.specs.declared.kind.Kind.{Kind}
use Rattle.ids.specs.declared.kind.Kind.TheVariants as kind
use Rattle.ids.specs.Numbers.{kind_number}
use Rattle.definitions.specs.Bytes.{Bytes}
use Rattle.definitions.specs.Frames.{Frame, kind_of}
use Rattle.definitions.specs.FrameLimits.{Spells}
use Rattle.letters.specs.declared.mark.TheConstants.{FIRST_MARK}
use Rattle.letters.specs.Letters.{Letter, frame, spelling, IsLetter, IsUnmarked}
use Rattle.letters.specs.Reading.{IsReadAs, letter_in}
use Rattle.letters.proofs.Exact.{read_back}

pub of_one : (a b : Letter) → IsLetter a → IsLetter b → spelling a ≡ spelling b → a ≡ b
of_one a b is_a is_b e = same_Some a b (sym (read_back a is_a) ∙ (ap letter_in e ∙ read_back b is_b))

pub back_exactly : (letter : Letter) (read : Option Letter) → IsLetter letter → IsReadAs (spelling letter) read
    → read ≡ Some letter
back_exactly letter (Some other) is reads =
    ap (λ (l : Letter). Some l) (sym (of_one letter other is reads.0 reads.1))
back_exactly letter None is none = absurd (none letter is refl)

-- no kind's number is a mark
low_kind : (k : Kind) → kind_number k < FIRST_MARK
low_kind kind.Request = omega arith
low_kind kind.Proposal = omega arith
low_kind kind.Vote = omega arith
low_kind kind.NewView = omega arith
low_kind kind.Reply = omega arith
low_kind kind.Fetch = omega arith
low_kind kind.Block = omega arith

-- a frame begins with none
unmarked : (sizes : Sizes) (bytes : Bytes) (spelled : Frame) → Spells sizes bytes spelled → IsUnmarked bytes
unmarked sizes bytes spelled (is, inl old) =
    subst IsUnmarked (sym old.1) (omega arith, low_kind (kind_of spelled))
unmarked sizes bytes spelled (is, inr new) = subst IsUnmarked (sym new.1) (omega arith, omega arith)

pub a_frame : (sizes : Sizes) (bytes : Bytes) (spelled : Frame) → Spells sizes bytes spelled
    → IsLetter (frame bytes)
    × ((letter : Letter) → IsLetter letter → bytes ≡ spelling letter → letter ≡ frame bytes)
a_frame sizes bytes spelled spells =
    let is = unmarked sizes bytes spelled spells in
    (is, λ letter is_letter e. sym (of_one (frame bytes) letter is is_letter e))
