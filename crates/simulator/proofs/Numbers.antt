-- Decimals without leading zeros.
use Rattle.std.proofs.Common.{◌≡◌, ◌≢◌, ℕ, ◌^◌, ◌<◌, ◌&&◌, true, List, length, get_or, Option, Some, None}
use Rattle.std.proofs.Common.{Ok, Err, arith, refl, sym, ap, ◌∙◌, nat_lt, bytes_eq, decimal}
use Rattle.std.specs.Prelude.{Result, OkIff}
use Rattle.std.specs.Result.{result_ok}
use Rattle.std.specs.Str.Parse.{AllDigits, digits_value}
use Rattle.std.proofs.lemmas.Bool.{and_parts, ltb-true, lt-ltb}
use Rattle.std.proofs.lemmas.Option.{cond_some}
use Rattle.std.proofs.lemmas.Slice.Eq.{bytes_eq-Decides}
use Rattle.std.proofs.lemmas.Str.Parse.{IsNumeralModel, numerals_by_value, tells_digits, not_in_digits}
use Rattle.std.proofs.lemmas.Fmt.{digits_decimal, digits_value-decimal, decimal_injective}
use Rattle.definitions.specs.Cache.{number_in}
use Rattle.simulator.specs.Texts.{IsReadOf, IsBelow}

own : IsNumeralModel (AllDigits 10) (digits_value 10)
own = numerals_by_value (AllDigits 10) tells_digits

-- what is read as a number is what the text spells
pub number_is_read : (bs : List ℕ) (r : Option ℕ) → r ≡ number_in bs
    → IsReadOf decimal (IsBelow (2 ^ 64)) bs r
number_is_read bs (Some n) e =
    let m = digits_value 10 bs in
    let a = cond_some (nat_lt m (2 ^ 64) && bytes_eq bs (decimal m)) m n (sym e) in
    let both = and_parts _ _ a.0 in
    let below : m < 2 ^ 64 = ltb-true _ _ both.0 in
    (omega (arith, a.1, below), sym ((bytes_eq-Decides bs (decimal m)).0 both.1 ∙ ap decimal a.1))
number_is_read bs None e = λ n small spelled.
    let value : digits_value 10 bs ≡ n =
    ap (digits_value 10) (sym spelled) ∙ digits_value-decimal own n small in
    let same : bytes_eq bs (decimal n) ≡ true = (bytes_eq-Decides bs (decimal n)).1 (sym spelled) in
    let read : number_in bs ≡ Some n = rw (value, same, lt-ltb n (2 ^ 64) small) refl in
    cc

-- a number that fits a byte is read so
pub small_is_read : {E : Type 0} (bs : List ℕ) (n : ℕ) (r : Result ℕ E)
    → IsReadOf decimal (IsBelow (2 ^ 64)) bs (Some n) → OkIff r (n < 2 ^ 8) n
    → IsReadOf decimal (IsBelow (2 ^ 8)) bs (result_ok r)
small_is_read {E} bs n (Ok m) read fits = rw (fits.1) (fits.0, read.1)
small_is_read {E} bs n (Err e) read fits = λ m small spelled.
    let same : n ≡ m = decimal_injective n m read.0 (omega (arith, small)) (read.1 ∙ sym spelled) in
    fits (rw same small)

-- no space stands in a decimal
pub no_space : (n : ℕ) → n < 2 ^ 64 → (i : ℕ) → i < length (decimal n) → get_or (decimal n) i 0 ≢ 32
no_space n small =
    not_in_digits own (decimal n) 32 (digits_decimal own n small) (λ range. omega (arith, range.0))

-- nor does a letter
pub no_letter : (n c : ℕ) → n < 2 ^ 64 → 57 < c → (i : ℕ) → i < length (decimal n) → get_or (decimal n) i 0 ≢ c
no_letter n c small high =
    not_in_digits own (decimal n) c (digits_decimal own n small) (λ range. omega (arith, range.1, high))
