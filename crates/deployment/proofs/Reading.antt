-- Fields and lines at the front of a text, read.
use Rattle.std.proofs.Common.{◌≡◌, ◌≢◌, ℕ, zero, suc, ◌-◌, ◌+◌, ◌%◌, ◌^◌, ◌<◌, ◌&&◌, ◌==◌, Bool, true, false, List, [], ◌∷◌, ◌++◌, length}
use Rattle.std.proofs.Common.{take, drop, get_or, Option, Some, None, arith, refl, sym, ap, ◌∙◌, nat_lt, bytes_eq}
use Rattle.std.proofs.Common.{decimal, append_assoc, add-one, position, lit<}
use Rattle.std.specs.Prelude.{MatchOption, option_map}
use Rattle.std.specs.Borrow.{Bor}
use Rattle.std.specs.List.{AllByRecursion, list_all, position_or_len}
use Rattle.std.specs.Str.Parse.{AllDigits, digits_value}
use Rattle.std.proofs.Math.Seq.{split_at, get_or-append_seam}
use Rattle.std.proofs.Math.ListN.{get_or-append}
use Rattle.std.proofs.lemmas.List.Sums.{position_or_len_is}
use Rattle.std.proofs.lemmas.Bool.{and_parts, ltb-true, lt-ltb, eqb-true, ne_eqb}
use Rattle.std.proofs.lemmas.Bool.Decides.{nat_tests}
use Rattle.std.proofs.lemmas.List.{append_cancel_left, length-append, length-drop, take_all}
use Rattle.std.proofs.lemmas.List.Quantifiers.{position-Some}
use Rattle.std.proofs.lemmas.Option.{cond_some}
use Rattle.std.proofs.lemmas.Slice.Eq.{bytes_eq-Decides}
use Rattle.std.proofs.lemmas.Str.Parse.{IsNumeralModel, numerals_by_value, tells_digits}
use Rattle.std.proofs.lemmas.Fmt.{digits_value-decimal, decimal_by_steps}
use Rattle.definitions.specs.Bytes.{Bytes}
use Rattle.definitions.specs.Cache.{number_in}
use Rattle.deployment.specs.Fields.{IsAt, IsBehind, IsBelow, IsCut, IsLine, is_address, is_visible, IsAddress}

-- ---- fronts

pub behind_both : (a b text rest : Bytes) (found : Option Bytes) → text ≡ a ++ rest → IsBehind b rest found
    → IsBehind (a ++ b) text found
behind_both a b text rest None is none =
    λ more e. none more (append_cancel_left a rest (b ++ more) (sym is ∙ e ∙ append_assoc a b more))
behind_both a b text rest (Some more) is found = is ∙ ap (λ t. a ++ t) found ∙ sym (append_assoc a b more)

pub behind_neither : (a b text : Bytes) → IsBehind a text None → IsBehind (a ++ b) text None
behind_neither a b text none = λ more e. none (b ++ more) (e ∙ append_assoc a b more)

pub stripped : (text front : Bytes) (r : Option (Bor Bytes))
    → MatchOption r ((rest : Bytes) → text ≢ front ++ rest) (λ x. text ≡ front ++ x.now)
    → IsBehind front text (option_map (λ rest. rest.now) r)
stripped text front None h = h
stripped text front (Some x) h = h

-- what is read behind a front
pub at_behind : {X : Type 0} (front text rest : Bytes) (spelling : X → Bytes) (Fits : X → Type 0)
    (r : Option (X × Bytes)) → text ≡ front ++ rest → IsAt spelling Fits rest r
    → IsAt (λ x. front ++ spelling x) Fits text r
at_behind front text rest spelling Fits None is none =
    λ x more fits e. none x more fits
    (append_cancel_left front rest (spelling x ++ 10 ∷ more)
    (sym is ∙ e ∙ append_assoc front (spelling x) (10 ∷ more)))
at_behind front text rest spelling Fits (Some (x, more)) is found =
    (found.0, is ∙ ap (λ t. front ++ t) found.1 ∙ sym (append_assoc front (spelling x) (10 ∷ more)))

pub not_behind : {X : Type 0} (front text : Bytes) (spelling : X → Bytes) (Fits : X → Type 0)
    → IsBehind front text None → IsAt (λ x. front ++ spelling x) Fits text None
not_behind front text spelling Fits none =
    λ x more fits e. none (spelling x ++ 10 ∷ more) (e ∙ append_assoc front (spelling x) (10 ∷ more))

-- ---- lines

-- of two lines at the front of one text, both are the same
pub first_line : (l m r s : Bytes) → IsLine l → IsLine m → l ++ 10 ∷ r ≡ m ++ 10 ∷ s → (l ≡ m) × (r ≡ s)
first_line [] [] r s a b e = (refl, cc e)
first_line [] (y ∷ ys) r s a b e = let lf : y ≡ 10 = cc e in absurd (b.0 lf)
first_line (x ∷ xs) [] r s a b e = let lf : x ≡ 10 = cc e in absurd (a.0 lf)
first_line (x ∷ xs) (y ∷ ys) r s a b e =
    let tails : xs ++ 10 ∷ r ≡ ys ++ 10 ∷ s = cc e in
    let heads : x ≡ y = cc e in
    let more = first_line xs ys r s a.1 b.1 tails in
    let same : x ∷ xs ≡ y ∷ ys = cc (heads, more.0) in
    (same, more.1)

abbrev is_lf : ℕ → Bool
is_lf byte = byte == 10

-- the bytes before the first LF
before_lf : (bs : Bytes) (n : ℕ) → n < length bs + 1 → ((k : ℕ) → k < n → is_lf (get_or bs k 0) ≡ false)
    → IsLine (take n bs)
before_lf bs zero within none = tt
before_lf [] (suc n) within none = absurd (omega (arith, within))
before_lf (b ∷ bs) (suc n) within none =
    let here = none 0 (omega arith) in
    let other : b ≢ 10 = grind (arith, nat_tests) in
    (other, before_lf bs n (omega (arith, within)) (λ k low. none (suc k) (omega arith)))

pub cut : (bs : Bytes) (end : ℕ) → position is_lf bs ≡ Some end
    → IsCut bs (Some (take end bs, drop (end + 1) bs))
cut bs end found =
    let at = position-Some is_lf bs end 0 found in
    let lf : get_or bs end 0 ≡ 10 = eqb-true _ _ at.1 in
    let whole : bs ≡ take end bs ++ get_or bs end 0 ∷ drop (end + 1) bs =
    rw add-one (split_at bs end 0 at.0) in
    (before_lf bs end (omega (arith, at.0)) at.2, rw lf at whole)

-- no byte of a line is LF
none_of_line : (line : Bytes) (k : ℕ) → IsLine line → k < length line → is_lf (get_or line k 0) ≡ false
none_of_line [] k is within = absurd (omega (arith, within))
none_of_line (b ∷ bs) zero is within = ne_eqb b 10 is.0
none_of_line (b ∷ bs) (suc k) is within = none_of_line bs k is.1 (omega (arith, within))

pub uncut : (bs : Bytes) → position is_lf bs ≡ None → IsCut bs None
uncut bs none line rest is e =
    let at : position_or_len is_lf (line ++ 10 ∷ rest) ≡ length line =
    position_or_len_is is_lf (line ++ 10 ∷ rest) (length line) 0
    (omega (arith, length-append line (10 ∷ rest)))
    (λ k within. rw (get_or-append line (10 ∷ rest) 0 k within) (none_of_line line k is within))
    (λ _. rw (get_or-append_seam line 10 rest 0) refl) in
    let long : length bs ≡ length line + length (10 ∷ rest) = ap length e ∙ length-append line (10 ∷ rest) in
    let there : position_or_len is_lf bs ≡ length line = ap (position_or_len is_lf) e ∙ at in
    let within : position_or_len is_lf bs < length bs = omega (arith, long, there) in
    let some : position is_lf bs ≡ Some (position_or_len is_lf bs) =
    rw (lt-ltb (position_or_len is_lf bs) (length bs) within) refl in
    absurd (cc (some, none))

-- all that is left from a place on
pub all_behind : (bs : Bytes) (n : ℕ) → take (length bs - n) (drop n bs) ≡ drop n bs
all_behind bs n = take_all (length bs - n) (drop n bs) (omega (arith, length-drop n bs))

-- ---- numbers and addresses

own : IsNumeralModel (AllDigits 10) (digits_value 10)
own = numerals_by_value (AllDigits 10) tells_digits

-- no LF stands in a number, nor in an address
line_push : (ds : Bytes) (d : ℕ) → IsLine ds → d ≢ 10 → IsLine (ds ++ d ∷ [])
line_push [] d line other = (other, tt)
line_push (x ∷ xs) d line other = (line.0, line_push xs d line.1 other)

pub decimal_line : (n : ℕ) → n < 2 ^ 64 → IsLine (decimal n)
decimal_line n small = decimal_by_steps (λ _ ds. IsLine ds)
    (λ d low. (λ e. omega (arith, e), tt))
    (λ d ds high line. line_push ds (48 + d % 10) line (λ e. omega (arith, e))) n small

visible_line : (bs : Bytes) → list_all is_visible bs ≡ true → IsLine bs
visible_line [] all = tt
visible_line (b ∷ bs) all =
    let parts = and_parts (is_visible b) (list_all is_visible bs) all in
    let seen = and_parts (nat_lt 32 b) (nat_lt b 127) parts.0 in
    let high : 32 < b = ltb-true _ _ seen.0 in
    (λ e. omega (arith, e, high), visible_line bs parts.1)

pub address_is_line : (bs : Bytes) → IsAddress bs → IsLine bs
address_is_line bs fits = visible_line bs (and_parts (nat_lt 0 (length bs)) (list_all is_visible bs) fits).1

-- a number that is the whole of a line
pub number_read : (text : Bytes) (line rest : Bytes) (r : Option ℕ) → IsCut text (Some (line, rest))
    → r ≡ number_in line
    → IsAt decimal (IsBelow (2 ^ 64)) text (option_map (λ n. (n, rest)) r)
number_read text line rest (Some n) is e =
    let m = digits_value 10 line in
    let a = cond_some (nat_lt m (2 ^ 64) && bytes_eq line (decimal m)) m n (sym e) in
    let both = and_parts _ _ a.0 in
    let below : m < 2 ^ 64 = ltb-true _ _ both.0 in
    let spelled : line ≡ decimal n = (bytes_eq-Decides line (decimal m)).0 both.1 ∙ ap decimal a.1 in
    (omega (arith, a.1, below), is.1 ∙ ap (λ t. t ++ 10 ∷ rest) spelled)
number_read text line rest None is e = λ n more small spelled.
    let same = first_line line (decimal n) rest more is.0 (decimal_line n small) (sym is.1 ∙ spelled) in
    let value : digits_value 10 line ≡ n =
    ap (digits_value 10) same.0 ∙ digits_value-decimal own n small in
    let equal : bytes_eq line (decimal n) ≡ true = (bytes_eq-Decides line (decimal n)).1 same.0 in
    let read : number_in line ≡ Some n = rw (value, equal, lt-ltb n (2 ^ 64) small) refl in
    cc

pub no_number_line : (text : Bytes) → IsCut text None → IsAt decimal (IsBelow (2 ^ 64)) text None
no_number_line text none = λ n more small spelled. none (decimal n) more (decimal_line n small) spelled

-- an address that is the whole of a line
pub no_address : (text line rest : Bytes) → IsCut text (Some (line, rest)) → is_address line ≡ false
    → IsAt (λ address. address) IsAddress text None
no_address text line rest is not_one = λ a more fits spelled.
    let same = first_line line a rest more is.0 (address_is_line a fits) (sym is.1 ∙ spelled) in
    let other : is_address a ≡ false = rw same.0 at not_one in
    absurd (cc (fits, other))

pub no_address_line : (text : Bytes) → IsCut text None → IsAt (λ address. address) IsAddress text None
no_address_line text none = λ a more fits spelled. none a more (address_is_line a fits) spelled
