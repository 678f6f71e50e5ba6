-- The text of a mark, read.
use Rattle.std.proofs.Common.{◌≡◌, ◌≢◌, ℕ, ◌^◌, ◌<◌, ◌&&◌, true, List, [], ◌∷◌, ◌++◌, Option, Some, None, arith, refl}
use Rattle.std.proofs.Common.{sym, ap, ◌∙◌, nat_lt, bytes_eq, decimal, append_assoc}
use Rattle.std.specs.Prelude.{MatchOption, option_map}
use Rattle.std.specs.Borrow.{Bor}
use Rattle.std.specs.Str.Parse.{AllDigits, digits_value}
use Rattle.std.proofs.lemmas.Bool.{and_parts, ltb-true, lt-ltb}
use Rattle.std.proofs.lemmas.List.{append_cancel_left, append_cancel_right}
use Rattle.std.proofs.lemmas.Option.{cond_some}
use Rattle.std.proofs.lemmas.Slice.Eq.{bytes_eq-Decides}
use Rattle.std.proofs.lemmas.Str.Parse.{IsNumeralModel, numerals_by_value, tells_digits}
use Rattle.std.proofs.lemmas.Fmt.{digits_value-decimal}
use Rattle.definitions.specs.Bytes.{Bytes}
use Rattle.definitions.specs.Cache.{number_in}
use Rattle.state_marks.specs.Texts.{IsReadAs, IsFrontOf, mark_behind, mark_text}

own : IsNumeralModel (AllDigits 10) (digits_value 10)
own = numerals_by_value (AllDigits 10) tells_digits

-- what is read as a number is what the text spells
number_is_read : (bs : Bytes) (r : Option ℕ) → r ≡ number_in bs → IsReadAs decimal bs r
number_is_read bs (Some n) e =
    let m = digits_value 10 bs in
    let a = cond_some (nat_lt m (2 ^ 64) && bytes_eq bs (decimal m)) m n (sym e) in
    let both = and_parts _ _ a.0 in
    let below : m < 2 ^ 64 = ltb-true _ _ both.0 in
    (omega (arith, a.1, below), (bytes_eq-Decides bs (decimal m)).0 both.1 ∙ ap decimal a.1)
number_is_read bs None e = λ n small spelled.
    let value : digits_value 10 bs ≡ n =
    ap (digits_value 10) spelled ∙ digits_value-decimal own n small in
    let same : bytes_eq bs (decimal n) ≡ true = (bytes_eq-Decides bs (decimal n)).1 spelled in
    let read : number_in bs ≡ Some n = rw (value, same, lt-ltb n (2 ^ 64) small) refl in
    cc

-- a number before LF
pub number_read : (text front : Bytes) (r : Option ℕ) → text ≡ front ++ 10 ∷ [] → r ≡ number_in front
    → IsReadAs mark_behind text r
number_read text front (Some n) cut e =
    let read = number_is_read front (Some n) e in
    (read.0, cut ∙ ap (λ t. t ++ 10 ∷ []) read.1)
number_read text front None cut e = λ n small spelled.
    number_is_read front None e n small
    (append_cancel_right front (decimal n) (10 ∷ []) (sym cut ∙ spelled))

pub no_number : (text : Bytes) → ((front : Bytes) → text ≢ front ++ 10 ∷ []) → IsReadAs mark_behind text None
no_number text none = λ n small spelled. none (decimal n) spelled

-- what stands behind the number and the space
pub front_read : (party : ℕ) (text rest : Bytes) (r : Option (Bor Bytes)) → text ≡ decimal party ++ rest
    → MatchOption r ((more : Bytes) → rest ≢ 32 ∷ more) (λ x. rest ≡ 32 ∷ x.now)
    → IsFrontOf party text (option_map (λ x. x.now) r)
front_read party text rest (Some x) front space = front ∙ ap (λ t. decimal party ++ t) space
front_read party text rest None front none =
    λ more spelled. none more (append_cancel_left (decimal party) rest (32 ∷ more) (sym front ∙ spelled))

-- the mark behind the party's number
pub mark_read : (party : ℕ) (text rest : Bytes) (r : Option ℕ) → IsFrontOf party text (Some rest)
    → IsReadAs mark_behind rest r → IsReadAs (mark_text party) text r
mark_read party text rest (Some n) front read =
    (read.0, front ∙ ap (λ t. decimal party ++ 32 ∷ t) read.1)
mark_read party text rest None front none = λ n small spelled.
    none n small (same_rest (append_cancel_left (decimal party) (32 ∷ rest) (32 ∷ mark_behind n)
    (sym front ∙ spelled)))
  where
    same_rest : {m : Bytes} → 32 ∷ rest ≡ 32 ∷ m → rest ≡ m
    same_rest e = cc e

pub no_mark : (party : ℕ) (text : Bytes) → IsFrontOf party text None → IsReadAs (mark_text party) text None
no_mark party text none = λ n small spelled. none (mark_behind n) spelled
