-- Numbers by their digits, as far as they are read.
use Rattle.std.proofs.Common.{◌≡◌, ℕ, ◌+◌, ◌*◌, ◌-◌, ◌^◌, ◌<◌, ◌≤◌, true, List, length, get_or, take, None}
use Rattle.std.proofs.Common.{refl, arith, le-ltb, lt-ltb}
use Rattle.std.specs.List.{list_all}
use Rattle.std.specs.Char.{digit_value}
use Rattle.std.specs.Str.Parse.{digits_value}
use Rattle.std.proofs.lemmas.Bool.{and_parts, leb-true}
use Rattle.std.proofs.lemmas.List.Sums.{AllPass-from_list_all}
use Rattle.std.proofs.lemmas.Int.Digits.{digits_value_more}
use Rattle.std.proofs.lemmas.Str.Parse.{digits_value-take-le}
use Rattle.mc_lines.specs.Fields.{is_digit, value_in}

-- a digit's value is what is above 48
digit_is : (ds : List ℕ) (i : ℕ) → list_all is_digit ds ≡ true → i < length ds
    → digit_value (get_or ds i 0) ≡ get_or ds i 0 - 48
digit_is ds i all lt =
    let both = and_parts _ _ (AllPass-from_list_all is_digit ds all i 0 lt) in
    let low : 48 ≤ get_or ds i 0 = leb-true _ _ both.0 in
    let high : get_or ds i 0 ≤ 57 = leb-true _ _ both.1 in
    rw (le-ltb (get_or ds i 0) 48 low, lt-ltb (get_or ds i 0) 58 (omega arith)) refl

-- one more digit
pub digits_value-more : (ds : List ℕ) (i : ℕ) → list_all is_digit ds ≡ true → i < length ds
    → digits_value 10 (take (i + 1) ds) ≡ digits_value 10 (take i ds) * 10 + (get_or ds i 0 - 48)
digits_value-more ds i all lt = rw (← digit_is ds i all lt) (digits_value_more 10 ds i lt)

-- where the digits so far are too great, all are
pub too_great : (ds : List ℕ) (i : ℕ) → list_all is_digit ds ≡ true → i < length ds
    → 2 ^ 64 ≤ digits_value 10 (take i ds) * 10 + (get_or ds i 0 - 48) → None ≡ value_in ds
too_great ds i all lt great =
    let big : 2 ^ 64 ≤ digits_value 10 ds =
    omega (arith, digits_value-more ds i all lt, digits_value-take-le 10 ds (i + 1) (omega arith)) in
    rw (le-ltb _ _ big) refl
