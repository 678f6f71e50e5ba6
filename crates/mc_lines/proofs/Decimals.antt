-- Which texts are numbers, and how that is tested.
use Rattle.std.proofs.Common.{◌≡◌, ℕ, ◌^◌, ◌<◌, ◌≤◌, ◌&&◌, Bool, true, false, cond, not, length, get_or}
use Rattle.std.proofs.Common.{Option, Some, None, refl, sym, ap, ◌∙◌, inl, inr, arith, rules, nat_lt}
use Rattle.std.proofs.Common.{bytes_eq, decimal}
use Rattle.std.specs.Prelude.{◌==◌, ◌||◌, nat_le}
use Rattle.std.specs.List.{list_all}
use Rattle.std.specs.Str.Parse.{digits_value}
use Rattle.std.proofs.lemmas.Bool.{and_parts, and_from, leb-true, le-leb, eqb-false, ltb-true, lt-ltb}
use Rattle.std.proofs.lemmas.Bool.{ne_eqb, cases_eq, cond_both, not-true, or_cases}
use Rattle.std.proofs.lemmas.Option.{cond_some}
use Rattle.std.proofs.lemmas.Slice.Eq.{bytes_eq-Decides}
use Rattle.std.proofs.lemmas.Str.Parse.{IsNumeralModel, numerals_by_value}
use Rattle.std.proofs.lemmas.Fmt.{decimal_is_IsNumeral, decimal-digits_value, digits_decimal}
use Rattle.std.proofs.lemmas.Fmt.{digits_value-decimal, decimal_nonempty, first_decimal, decimal_digit}
use Rattle.definitions.specs.Bytes.{Bytes}
use Rattle.definitions.specs.Cache.{number_in}
use Rattle.mc_lines.specs.Fields.{is_digit, value_in}

-- ---- by the decimals

-- the text of a number is one
pub number-decimal : (text : Bytes) (n : ℕ) → n < 2 ^ 64 → text ≡ decimal n → Some n ≡ number_in text
number-decimal text n l e =
    let value : digits_value 10 text ≡ n = ap (digits_value 10) e ∙ (decimal_is_IsNumeral n l).1 in
    let same : bytes_eq text (decimal n) ≡ true = (bytes_eq-Decides text (decimal n)).1 e in
    let small : nat_lt n (2 ^ 64) ≡ true = lt-ltb n (2 ^ 64) l in
    rw (value, same, small) refl

-- no other text is
pub no_number : (text : Bytes) → ((n : ℕ) → n < 2 ^ 64 → text ≡ decimal n → ⊥) → None ≡ number_in text
no_number text other =
    let n = digits_value 10 text in
    cond_both (nat_lt n (2 ^ 64) && bytes_eq text (decimal n)) _ _ (λ (o : Option ℕ). None ≡ o)
    (λ t. let both =
    and_parts _ _ t in
    absurd (other n (ltb-true n (2 ^ 64) both.0) ((bytes_eq-Decides text (decimal n)).0 both.1)))
    (λ t. refl)

-- ---- by the digits

-- digits alone, with no zero before others
abbrev pub is_numeral : Bytes → Bool
is_numeral text =
    nat_le 1 (length text) && (not (get_or text 0 0 == 48) || nat_le (length text) 1)
    && list_all is_digit text

-- a number by its digits
own : IsNumeralModel (λ ds. list_all is_digit ds ≡ true) (digits_value 10)
own = numerals_by_value _ (search rules)

-- where a numeral begins with 0, it is no longer
leads : (t : Bytes) → (not (get_or t 0 0 == 48) || nat_le (length t) 1) ≡ true → 1 ≤ length t
    → get_or t 0 0 ≡ 48 → length t ≡ 1
leads t e long z =
    elim (or_cases _ _ e) [
      | inl p ↦ absurd (eqb-false _ _ (not-true _ p) z)
      | inr p ↦ let short : length t ≤ 1 = leb-true _ _ p in omega arith
    ]

-- what such digits write is a number whose decimal they are
tested_some : (t : Bytes) (n : ℕ) → is_numeral t ≡ true → value_in t ≡ Some n → (t ≡ decimal n) × (n < 2 ^ 64)
tested_some t n test value =
    let b = cond_some (nat_lt (digits_value 10 t) (2 ^ 64)) (digits_value 10 t) n value in
    let last = and_parts _ _ test in
    let front = and_parts _ _ last.0 in
    let long : 1 ≤ length t = leb-true _ _ front.0 in
    let below : digits_value 10 t < 2 ^ 64 = ltb-true _ _ b.0 in
    let same : decimal (digits_value 10 t) ≡ t =
    decimal-digits_value own t last.1 (omega arith) (leads t front.1 long) below in
    (sym same ∙ ap decimal b.1, omega (arith, b.1, below))

-- a decimal begins with 0 only where it is no longer
leading : (n : ℕ) → n < 2 ^ 64 → (not (get_or (decimal n) 0 0 == 48) || nat_le (length (decimal n)) 1) ≡ true
leading n lt =
    elim (cases_eq n 0) [
      | inl z ↦ rw z (rw (decimal_digit 0 (omega arith)) refl)
      | inr nz ↦ let high : 48 < get_or (decimal n) 0 0 =
          first_decimal n (omega arith) lt in rw (ne_eqb (get_or (decimal n) 0 0) 48 (λ e. omega arith)) refl
    ]

-- a decimal passes the test, and writes its number
decimal_tested : (n : ℕ) → n < 2 ^ 64 → (is_numeral (decimal n) ≡ true) × (value_in (decimal n) ≡ Some n)
decimal_tested n lt =
    let some : 0 < length (decimal n) = decimal_nonempty n lt in
    let long : nat_le 1 (length (decimal n)) ≡ true = le-leb _ _ (omega arith) in
    let test : is_numeral (decimal n) ≡ true =
    and_from _ _ (and_from _ _ long (leading n lt)) (digits_decimal own n lt) in
    let value : digits_value 10 (decimal n) ≡ n = digits_value-decimal own n lt in
    (test, ap (λ (m : ℕ). cond (nat_lt m (2 ^ 64)) (Some m) None) value ∙ rw (lt-ltb n (2 ^ 64) lt) refl)

-- what passes is the number that is written
tested_is : (t : Bytes) (o : Option ℕ) → is_numeral t ≡ true → value_in t ≡ o → o ≡ number_in t
tested_is t (Some n) test e = let found = tested_some t n test e in number-decimal t n found.1 found.0
tested_is t None test e =
    no_number t (λ n lt d. let same : value_in t ≡ Some n = ap value_in d ∙ (decimal_tested n lt).1 in cc)

pub number_in_tested : (t : Bytes) → is_numeral t ≡ true → value_in t ≡ number_in t
number_in_tested t test = tested_is t (value_in t) test refl

-- and what doesn't is none
pub number_in_untested : (t : Bytes) → is_numeral t ≡ false → None ≡ number_in t
number_in_untested t untested = no_number t (λ n lt d.
    let tested : is_numeral t ≡ true = ap is_numeral d ∙ (decimal_tested n lt).0 in cc)
