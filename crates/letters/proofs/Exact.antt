-- What bytes are read as is the letter that they spell, and where nothing is read they spell none.
use Rattle.std.proofs.Common.{◌≡◌, ◌∙◌, ℕ, ◌+◌, ◌^◌, ◌<◌, ◌≤◌, Bool, true, false, [], ◌∷◌, ◌++◌, length, take, drop}
use Rattle.std.proofs.Common.{suc, get_or, Option, Some, None, refl, sym, ap, subst, inl, inr, arith}
use Rattle.std.specs.Prelude.{◌==◌, nat_lt, option_map, if◌then◌else◌}
use Rattle.std.specs.Option.{option_and_then}
use Rattle.std.specs.Int.{w32, w64, to_be_bytes, from_be_bytes}
use Rattle.std.proofs.lemmas.Bool.{eqb-true, ltb-true, ltb-false, lt-ltb, le-ltb, cases_lt}
use Rattle.std.proofs.lemmas.List.{take-append-drop, drop-drop, take_all, get_or-take, get_or-drop, get_or_past}
use Rattle.std.proofs.lemmas.List.{length-take, length-drop, nil_from_length}
use Rattle.std.proofs.Math.Seq.{drop-cons}
use Rattle.std.proofs.Math.Dec.{eqb-suc-zero}
use Rattle.std.proofs.lemmas.Nat.{be_bytes_4, be_bytes_8, from_be_bytes-to_be_bytes_4, from_be_bytes-to_be_bytes_8}
use Rattle.std.proofs.lemmas.Option.{same_Some, none-some}
use Rattle.definitions.proofs.Lists.{find_some}
use Rattle.definitions.specs.Bytes.{Bytes}
use Rattle.letters.specs.declared.mark.Mark.{Mark}
use Rattle.letters.specs.declared.mark.Mark.TheVariants as mark
use Rattle.letters.specs.declared.mark.TheConstants.{FIRST_MARK}
use Rattle.letters.specs.declared.progress.Progress.{Progress}
use Rattle.letters.specs.Letters.{Letter, frame, passed, doubted, asked, recorded, announced, answered, told}
use Rattle.letters.specs.Letters.{spelling, IsLetter, mark_number, mark_numbered, marks, flag}
use Rattle.letters.specs.Reading.{IsReadAs, number_at, flag_in, height_in, of_len, answered_in, told_in}
use Rattle.letters.specs.Reading.{marked_in, letter_in}

-- ---- a letter is read back

-- behind a mark
behind_mark : (m : Mark) (rest : Bytes) → letter_in (mark_number m ∷ rest) ≡ marked_in (mark_number m ∷ rest) m
behind_mark mark.Passed rest = rw (eqb-suc-zero (length rest)) refl
behind_mark mark.Doubted rest = rw (eqb-suc-zero (length rest)) refl
behind_mark mark.Asked rest = rw (eqb-suc-zero (length rest)) refl
behind_mark mark.Recorded rest = rw (eqb-suc-zero (length rest)) refl
behind_mark mark.Announced rest = rw (eqb-suc-zero (length rest)) refl
behind_mark mark.Answered rest = rw (eqb-suc-zero (length rest)) refl
behind_mark mark.Told rest = rw (eqb-suc-zero (length rest)) refl

-- a frame
frame_back : (bytes : Bytes) → 1 ≤ length bytes → get_or bytes 0 0 < FIRST_MARK → letter_in bytes ≡ Some (frame bytes)
frame_back [] some low = absurd (omega arith)
frame_back (head ∷ rest) some low =
    let is : nat_lt head FIRST_MARK ≡ true = lt-ltb head FIRST_MARK low in
    rw (eqb-suc-zero (length rest), is) refl

-- a yes or no
flag_back : (says : Bool) → flag_in (flag says) ≡ Some says
flag_back true = refl
flag_back false = refl

-- of equal fields
same_progress : (p q : Progress) → p.height ≡ q.height → p.horizon ≡ q.horizon → p.recorded ≡ q.recorded
    → p.view ≡ q.view → p.goes_on ≡ q.goes_on → p.is_away ≡ q.is_away → p ≡ q
same_progress p q height horizon lowest view goes_on is_away =
    let make : (h f r v : ℕ) (g a : Bool) → Progress =
    λ h f r v g a. record { height = h; horizon = f; recorded = r; view = v; goes_on = g; is_away = a } in
    ap (λ (n : ℕ). make n p.horizon p.recorded p.view p.goes_on p.is_away) height
    ∙ (ap (λ (n : ℕ). make q.height n p.recorded p.view p.goes_on p.is_away) horizon
    ∙ (ap (λ (n : ℕ). make q.height q.horizon n p.view p.goes_on p.is_away) lowest
    ∙ (ap (λ (n : ℕ). make q.height q.horizon q.recorded n p.goes_on p.is_away) view
    ∙ (ap (λ (b : Bool). make q.height q.horizon q.recorded q.view b p.is_away) goes_on
    ∙ ap (λ (b : Bool). make q.height q.horizon q.recorded q.view q.goes_on b) is_away))))

-- a height and a text
height_back : (mark from : ℕ) (text : Bytes) → from < 2 ^ 64
    → height_in (mark ∷ to_be_bytes w64 from ++ text) ≡ Some (from, text)
height_back mark from text lt =
    let long : nat_lt (length (mark ∷ to_be_bytes w64 from ++ text)) 9 ≡ false = le-ltb _ _ (omega arith) in
    rw long (ap (λ (n : ℕ). Some (n, text)) (from_be_bytes-to_be_bytes_8 from lt))

pub read_back : (letter : Letter) → IsLetter letter → letter_in (spelling letter) ≡ Some letter
read_back (frame bytes) is = frame_back bytes is.0 is.1
read_back (passed request) is = behind_mark mark.Passed request
read_back (doubted voters) is =
    behind_mark mark.Doubted (to_be_bytes w32 voters)
    ∙ ap (λ (n : ℕ). Some (doubted n)) (from_be_bytes-to_be_bytes_4 voters is)
read_back (asked from bytes) is =
    ap (λ (n : ℕ). Some (asked n (from_be_bytes w64 (to_be_bytes w64 bytes)))) (from_be_bytes-to_be_bytes_8 from is.0)
    ∙ ap (λ (n : ℕ). Some (asked from n)) (from_be_bytes-to_be_bytes_8 bytes is.1)
read_back (recorded from text) is =
    behind_mark mark.Recorded (to_be_bytes w64 from ++ text)
    ∙ ap (option_map (λ p. recorded p.0 p.1)) (height_back 196 from text is)
read_back (announced from text) is =
    behind_mark mark.Announced (to_be_bytes w64 from ++ text)
    ∙ ap (option_map (λ p. announced p.0 p.1)) (height_back 197 from text is)
read_back (answered from bytes is_last) is =
    let spelled = spelling (answered from bytes is_last) in
    ap (answered_in spelled) (flag_back is_last)
    ∙ (ap (λ (n : ℕ). Some (answered n (from_be_bytes w64 (to_be_bytes w64 bytes)) is_last))
    (from_be_bytes-to_be_bytes_8 from is.0)
    ∙ ap (λ (n : ℕ). Some (answered from n is_last)) (from_be_bytes-to_be_bytes_8 bytes is.1))
read_back (told p) is =
    let spelled = spelling (told p) in
    ap (λ (o : Option Bool). told_in spelled o (flag_in (flag p.is_away))) (flag_back p.goes_on)
    ∙ (ap (λ (o : Option Bool). told_in spelled (Some p.goes_on) o) (flag_back p.is_away)
    ∙ ap (λ (q : Progress). Some (told q)) (same_progress (record {
      height = from_be_bytes w64 (to_be_bytes w64 p.height);
      horizon = from_be_bytes w64 (to_be_bytes w64 p.horizon);
      recorded = from_be_bytes w64 (to_be_bytes w64 p.recorded);
      view = from_be_bytes w64 (to_be_bytes w64 p.view);
      goes_on = p.goes_on;
      is_away = p.is_away;
    }) p (from_be_bytes-to_be_bytes_8 p.height is.height) (from_be_bytes-to_be_bytes_8 p.horizon is.horizon)
    (from_be_bytes-to_be_bytes_8 p.recorded is.recorded) (from_be_bytes-to_be_bytes_8 p.view is.view) refl refl))

-- ---- what is read was spelled

-- each is a byte
abbrev pub AreBytes : Bytes → Type 0
AreBytes text = (i : ℕ) → get_or text i 0 < 256

-- so is each of a part
of_part : (text : Bytes) (count place : ℕ) → AreBytes text → AreBytes (take count (drop place text))
of_part text count place each i =
    elim (cases_lt i count) as (λ _. get_or (take count (drop place text)) i 0 < 256) [
      | inl lt ↦ rw (get_or-take count (drop place text) i 0 lt, get_or-drop place text i 0) (each (place + i))
      | inr ge ↦ rw (get_or_past (take count (drop place text)) i 0
          (omega (arith, ge, length-take count (drop place text)))) (omega arith)
    ]

-- a number that was read has eight bytes
is_number : (text : Bytes) (place : ℕ) → AreBytes text → number_at text place < 2 ^ 64
is_number text place each =
    let part = of_part text 8 place each in
    omega (arith, part 0, part 1, part 2, part 3, part 4, part 5, part 6, part 7)

-- it is spelled as it stands, and then comes what stands behind it
spelled : (text : Bytes) (place : ℕ) → AreBytes text → place + 8 ≤ length text
    → drop place text ≡ to_be_bytes w64 (number_at text place) ++ drop (place + 8) text
spelled text place each le =
    let part = take 8 (drop place text) in
    let len : length part ≡ 8 = omega (arith, length-take 8 (drop place text), length-drop place text) in
    sym (take-append-drop 8 (drop place text))
    ∙ (ap (λ (l : Bytes). l ++ drop 8 (drop place text)) (sym (be_bytes_8 part _ len (of_part text 8 place each) refl))
    ∙ ap (λ (l : Bytes). to_be_bytes w64 (number_at text place) ++ l) (drop-drop 8 place text))

-- the same where it is known what stands behind it
number_then : (text : Bytes) (place : ℕ) (rest : Bytes) → AreBytes text → place + 8 ≤ length text
    → drop (place + 8) text ≡ rest → drop place text ≡ to_be_bytes w64 (number_at text place) ++ rest
number_then text place rest each le e =
    spelled text place each le ∙ ap (λ (l : Bytes). to_be_bytes w64 (number_at text place) ++ l) e

-- nothing stands behind the end
none_behind : (text : Bytes) (len : ℕ) → length text ≡ len → drop len text ≡ []
none_behind text len is = nil_from_length (drop len text) (omega (arith, length-drop len text))

-- a byte that says yes or no
flag_by : (zero_is one_is says : Bool) (byte : ℕ) → (zero_is ≡ true → byte ≡ 0) → (one_is ≡ true → byte ≡ 1)
    → (if zero_is then Some false else if one_is then Some true else None) ≡ Some says → byte ≡ flag says
flag_by true one_is says byte none one e = none refl ∙ ap flag (same_Some false says e)
flag_by false true says byte none one e = one refl ∙ ap flag (same_Some true says e)
flag_by false false says byte none one e = absurd cc

flag_said : (byte : ℕ) (says : Bool) → flag_in byte ≡ Some says → byte ≡ flag says
flag_said byte says e = flag_by (byte == 0) (byte == 1) says byte (eqb-true byte 0) (eqb-true byte 1) e

-- such a byte, and then what stands behind it
said : (text : Bytes) (place : ℕ) (says : Bool) → place < length text → flag_in (get_or text place 0) ≡ Some says
    → drop place text ≡ flag says ∷ drop (suc place) text
said text place says lt e =
    drop-cons text place 0 lt ∙ ap (λ (n : ℕ). n ∷ drop (suc place) text) (flag_said (get_or text place 0) says e)

-- what passed a test
guarded : (b : Bool) (o : Option Letter) (letter : Letter) → (if b then o else None) ≡ Some letter
    → (b ≡ true) × (o ≡ Some letter)
guarded true o letter e = (refl, e)
guarded false o letter e = absurd cc

-- what failed one
unguarded : (b : Bool) (o : Option (ℕ × Bytes)) (p : ℕ × Bytes) → (if b then None else o) ≡ Some p
    → (b ≡ false) × (o ≡ Some p)
unguarded true o p e = absurd cc
unguarded false o p e = (refl, e)

-- a height behind a mark, and a text
height_found : (text : Bytes) (p : ℕ × Bytes) → AreBytes text → height_in text ≡ Some p
    → (p.0 < 2 ^ 64) × (drop 1 text ≡ to_be_bytes w64 p.0 ++ p.1)
height_found text p each e =
    let g = unguarded (nat_lt (length text) 9) (Some (number_at text 1, drop 9 text)) p e in
    subst (λ (q : ℕ × Bytes). (q.0 < 2 ^ 64) × (drop 1 text ≡ to_be_bytes w64 q.0 ++ q.1))
    (same_Some (number_at text 1, drop 9 text) p g.1)
    (is_number text 1 each, spelled text 1 each (ltb-false (length text) 9 g.0))

-- a letter of so many bytes
has_len : (len : ℕ) (text : Bytes) (o : Option Letter) (letter : Letter) → of_len len text o ≡ Some letter
    → (length text ≡ len) × (o ≡ Some letter)
has_len len text o letter e =
    let g = guarded (length text == len) o letter e in
    (eqb-true _ _ g.0, g.1)

-- the bytes are the spelling of this letter, which is one
abbrev pub Spelled : Bytes → Letter → Type 0
Spelled text letter = IsLetter letter × (text ≡ spelling letter)

-- it may be called otherwise
called : (text : Bytes) (a b : Letter) → Some a ≡ Some b → Spelled text a → Spelled text b
called text a b e s = subst (Spelled text) (same_Some a b e) s

-- a letter that carries a text behind a height
carried_found : (mark : ℕ) (make : ℕ → Bytes → Letter) (rest : Bytes) (letter : Letter) (o : Option (ℕ × Bytes))
    → ((from : ℕ) (text : Bytes) → from < 2 ^ 64 → Spelled (mark ∷ to_be_bytes w64 from ++ text) (make from text))
    → AreBytes (mark ∷ rest) → height_in (mark ∷ rest) ≡ o → option_map (λ p. make p.0 p.1) o ≡ Some letter
    → Spelled (mark ∷ rest) letter
carried_found mark make rest letter None good each is e = absurd cc
carried_found mark make rest letter (Some p) good each is e =
    let h = height_found (mark ∷ rest) p each is in
    called (mark ∷ rest) (make p.0 p.1) letter e
    (subst (λ (l : Bytes). Spelled (mark ∷ l) (make p.0 p.1)) (sym h.1) (good p.0 p.1 h.0))

-- an answer's end
answered_found : (rest : Bytes) (letter : Letter) (says : Option Bool) → AreBytes (198 ∷ rest)
    → length (198 ∷ rest) ≡ 18 → flag_in (get_or (198 ∷ rest) 17 0) ≡ says
    → answered_in (198 ∷ rest) says ≡ Some letter → Spelled (198 ∷ rest) letter
answered_found rest letter None each len says e = absurd cc
answered_found rest letter (Some is_last) each len says e =
    let text = 198 ∷ rest in
    let last : drop 17 text ≡ flag is_last ∷ [] =
    said text 17 is_last (omega (arith, len)) says ∙ ap (λ (l : Bytes). flag is_last ∷ l) (none_behind text 18 len) in
    called text (answered (number_at text 1) (number_at text 9) is_last) letter e (
      (is_number text 1 each, is_number text 9 each),
      ap (λ (l : Bytes). 198 ∷ l) (number_then text 1 _ each (omega (arith, len))
          (number_then text 9 _ each (omega (arith, len)) last)),
    )

-- how far a replica is
told_found : (rest : Bytes) (letter : Letter) (on away : Option Bool) → AreBytes (199 ∷ rest)
    → length (199 ∷ rest) ≡ 35 → flag_in (get_or (199 ∷ rest) 33 0) ≡ on → flag_in (get_or (199 ∷ rest) 34 0) ≡ away
    → told_in (199 ∷ rest) on away ≡ Some letter → Spelled (199 ∷ rest) letter
told_found rest letter None away each len goes_on is_away e = absurd cc
told_found rest letter (Some on) None each len goes_on is_away e = absurd cc
told_found rest letter (Some on) (Some away) each len goes_on is_away e =
    let text = 199 ∷ rest in
    let flags : drop 33 text ≡ flag on ∷ flag away ∷ [] =
    said text 33 on (omega (arith, len)) goes_on
    ∙ ap (λ (l : Bytes). flag on ∷ l) (said text 34 away (omega (arith, len)) is_away
    ∙ ap (λ (l : Bytes). flag away ∷ l) (none_behind text 35 len)) in
    let from_view = number_then text 25 (flag on ∷ flag away ∷ []) each (omega (arith, len)) flags in
    let from_recorded = number_then text 17 _ each (omega (arith, len)) from_view in
    let from_horizon = number_then text 9 _ each (omega (arith, len)) from_recorded in
    called text (told (record {
      height = number_at text 1;
      horizon = number_at text 9;
      recorded = number_at text 17;
      view = number_at text 25;
      goes_on = on;
      is_away = away;
    })) letter e (
      record {
        height = is_number text 1 each;
        horizon = is_number text 9 each;
        recorded = is_number text 17 each;
        view = is_number text 25 each;
      },
      ap (λ (l : Bytes). 199 ∷ l) (number_then text 1 _ each (omega (arith, len)) from_horizon),
    )

-- a letter that is read behind a mark
marked_found : (m : Mark) (rest : Bytes) (letter : Letter) → AreBytes (mark_number m ∷ rest)
    → marked_in (mark_number m ∷ rest) m ≡ Some letter → Spelled (mark_number m ∷ rest) letter
marked_found mark.Passed rest letter each e = called (193 ∷ rest) (passed rest) letter e (tt, refl)
marked_found mark.Doubted rest letter each e =
    let text = 194 ∷ rest in
    let four = take 4 rest in
    let g = has_len 5 text (Some (doubted (from_be_bytes w32 four))) letter e in
    let part = of_part text 4 1 each in
    let len : length four ≡ 4 = omega (arith, length-take 4 rest, g.0) in
    called text (doubted (from_be_bytes w32 four)) letter g.1 (
      omega (arith, part 0, part 1, part 2, part 3),
      ap (λ (l : Bytes). 194 ∷ l) (sym (take_all 4 rest (omega (arith, g.0))) ∙ sym (be_bytes_4 four _ len part refl)),
    )
marked_found mark.Asked rest letter each e =
    let text = 195 ∷ rest in
    let g = has_len 17 text (Some (asked (number_at text 1) (number_at text 9))) letter e in
    called text (asked (number_at text 1) (number_at text 9)) letter g.1 (
      (is_number text 1 each, is_number text 9 each),
      ap (λ (l : Bytes). 195 ∷ l) (number_then text 1 _ each (omega (arith, g.0))
          (number_then text 9 [] each (omega (arith, g.0)) (none_behind text 17 g.0))),
    )
marked_found mark.Recorded rest letter each e =
    carried_found 196 (λ from text. recorded from text) rest letter (height_in (196 ∷ rest))
    (λ from text lt. (lt, refl)) each refl e
marked_found mark.Announced rest letter each e =
    carried_found 197 (λ from text. announced from text) rest letter (height_in (197 ∷ rest))
    (λ from text lt. (lt, refl)) each refl e
marked_found mark.Answered rest letter each e =
    let g = has_len 18 (198 ∷ rest) (answered_in (198 ∷ rest) (flag_in (get_or (198 ∷ rest) 17 0))) letter e in
    answered_found rest letter (flag_in (get_or (198 ∷ rest) 17 0)) each g.0 refl g.1
marked_found mark.Told rest letter each e =
    let text = 199 ∷ rest in
    let on = flag_in (get_or text 33 0) in
    let away = flag_in (get_or text 34 0) in
    let g = has_len 35 text (told_in text on away) letter e in
    told_found rest letter on away each g.0 refl refl g.1

-- the same where the mark was looked up
looked_up : (o : Option Mark) (head : ℕ) (rest : Bytes) (letter : Letter) → mark_numbered head ≡ o
    → AreBytes (head ∷ rest) → option_and_then (marked_in (head ∷ rest)) o ≡ Some letter
    → Spelled (head ∷ rest) letter
looked_up None head rest letter is each e = absurd cc
looked_up (Some m) head rest letter is each e =
    let named : mark_number m ≡ head = eqb-true _ _ (find_some (λ x. mark_number x == head) marks m is).1 in
    subst (λ (n : ℕ). AreBytes (n ∷ rest) → marked_in (n ∷ rest) m ≡ Some letter → Spelled (n ∷ rest) letter) named
    (marked_found m rest letter) each e

-- the same where it may be a frame
found_by : (b : Bool) (head : ℕ) (rest : Bytes) (letter : Letter) → nat_lt head FIRST_MARK ≡ b
    → AreBytes (head ∷ rest)
    → (if b then Some (frame (head ∷ rest)) else option_and_then (marked_in (head ∷ rest)) (mark_numbered head))
    ≡ Some letter
    → Spelled (head ∷ rest) letter
found_by true head rest letter low each e =
    called (head ∷ rest) (frame (head ∷ rest)) letter e ((omega arith, ltb-true head FIRST_MARK low), refl)
found_by false head rest letter low each e = looked_up (mark_numbered head) head rest letter refl each e

-- a letter that is read
found : (text : Bytes) (letter : Letter) → AreBytes text → letter_in text ≡ Some letter → Spelled text letter
found [] letter each e = absurd cc
found (head ∷ rest) letter each e =
    found_by (nat_lt head FIRST_MARK) head rest letter refl each (rw (eqb-suc-zero (length rest)) at e)

pub is_read : (text : Bytes) (read : Option Letter) → AreBytes text → read ≡ letter_in text → IsReadAs text read
is_read text (Some letter) each e = found text letter each (sym e)
is_read text None each e = λ letter is same. absurd (none-some letter (e ∙ (ap letter_in same ∙ read_back letter is)))
