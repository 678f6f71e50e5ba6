-- Lines at the front of a text, and where they are cut.
use Rattle.std.proofs.Common.{◌≡◌, ◌≢◌, ◌<◌, [], ◌∷◌, ◌++◌, length, take, drop, Option, Some, None, arith}
use Rattle.std.proofs.Common.{sym, ◌∙◌, ap, append_assoc, Result, Ok}
use Rattle.std.proofs.lemmas.List.{append_cancel_left, length-append}
use Rattle.std.proofs.Math.Seq.{take-append_seam, drop-append_seam}
use Rattle.hex.specs.Hex.{encode_lower, lower_digits, decode_sized}
use Rattle.hex.specs.declared.error.FromHexError.{FromHexError}
use Rattle.hex.proofs.HexLemmas.{length-encode_with, decode_sized-encode_lower}
use Rattle.std.specs.Prelude.{MatchOption, option_map}
use Rattle.std.specs.Borrow.{Bor}
use Rattle.definitions.specs.Bytes.{Bytes}
use Rattle.key_file.specs.KeyFile.{IsKey, key_end}
use Rattle.key_file.specs.Reading.{IsBehind, IsDigitsOf, IsKeyAt}

-- a front in two parts, of which the text has the first
pub behind_both : (a b text rest : Bytes) (found : Option Bytes) → text ≡ a ++ rest → IsBehind b rest found
    → IsBehind (a ++ b) text found
behind_both a b text rest None is none =
    λ more e. none more (append_cancel_left a rest (b ++ more) (sym is ∙ e ∙ append_assoc a b more))
behind_both a b text rest (Some more) is found = is ∙ ap (λ t. a ++ t) found ∙ sym (append_assoc a b more)

-- and of which it doesn't have the first
pub behind_neither : (a b text : Bytes) → IsBehind a text None → IsBehind (a ++ b) text None
behind_neither a b text none = λ more e. none (b ++ more) (e ∙ append_assoc a b more)

-- a line behind a front
pub key_behind : (a text rest : Bytes) (line : Bytes → Bytes) (found : Option (Bytes × Bytes))
    → text ≡ a ++ rest → IsKeyAt line rest found
    → IsKeyAt (λ key. a ++ line key) text found
key_behind a text rest line None is none =
    λ key more fits e. none key more fits
    (append_cancel_left a rest (line key ++ more) (sym is ∙ e ∙ append_assoc a (line key) more))
key_behind a text rest line (Some (key, more)) is found =
    (found.0, is ∙ ap (λ t. a ++ t) found.1 ∙ sym (append_assoc a (line key) more))

pub no_key_behind : (a text : Bytes) (line : Bytes → Bytes) → IsBehind a text None
    → IsKeyAt (λ key. a ++ line key) text None
no_key_behind a text line none =
    λ key more fits e. none (line key ++ more) (e ∙ append_assoc a (line key) more)

-- ---- a key and LF

-- a key has 64 digits
pub length-key : (key : Bytes) → IsKey key → length (encode_lower key) ≡ 64
length-key key fits = let e = length-encode_with lower_digits key in let n = fits.0 in omega (arith, e, n)

-- where a key and LF stand, the text is cut behind the digits
cut : (text key rest : Bytes) → IsKey key → text ≡ key_end key ++ rest
    → (take 64 text ≡ encode_lower key) × (drop 64 text ≡ 10 ∷ rest)
cut text key rest fits e =
    let whole : text ≡ encode_lower key ++ 10 ∷ rest = e ∙ append_assoc (encode_lower key) (10 ∷ []) rest in
    let len = length-key key fits in (
      rw (whole, ← len) (take-append_seam (encode_lower key) (10 ∷ rest)),
      rw (whole, ← len) (drop-append_seam (encode_lower key) (10 ∷ rest)),
    )

pub too_short : (text : Bytes) → length text < 64 → IsKeyAt key_end text None
too_short text short = λ key rest fits e.
    let len = length-key key fits in
    let whole = length-append (key_end key) rest in
    let front = length-append (encode_lower key) (10 ∷ []) in
    let same = ap length e in omega (arith, len, whole, front, same)

pub not_ended : (text rest : Bytes) → rest ≡ drop 64 text → IsBehind (10 ∷ []) rest None
    → IsKeyAt key_end text None
not_ended text rest is none = λ key more fits e. none more (is ∙ (cut text key more fits e).1)

pub no_digits : (text digits : Bytes) → digits ≡ take 64 text → IsDigitsOf digits None
    → IsKeyAt key_end text None
no_digits text digits is none = λ key more fits e. none key fits (is ∙ (cut text key more fits e).0)

pub key_found : (text digits ended rest key : Bytes) → text ≡ digits ++ ended → ended ≡ (10 ∷ []) ++ rest
    → IsDigitsOf digits (Some key) → IsKeyAt key_end text (Some (key, rest))
key_found text digits ended rest key is end found = (
  found.0,
  is ∙ ap (λ d. d ++ ended) found.1 ∙ ap (λ t. encode_lower key ++ t) end
      ∙ sym (append_assoc (encode_lower key) (10 ∷ []) rest),
)

-- ---- digits

-- where decoding fails, digits write no key
pub undecoded : (digits : Bytes) (r : Result Bytes FromHexError) → r ≡ decode_sized digits 32
    → ((key : Bytes) → r ≡ Ok key → ⊥) → IsDigitsOf digits None
undecoded digits r is failed =
    λ key fits e. failed key
    (is ∙ ap (λ d. decode_sized d 32) e ∙ decode_sized-encode_lower key 32 fits.0 fits.1)

-- where the key that was decoded has other digits, these write no key
pub other_digits : (digits key : Bytes) → decode_sized digits 32 ≡ Ok key → digits ≢ encode_lower key
    → IsDigitsOf digits None
other_digits digits key is other = λ wanted fits e.
    let decoded = decode_sized-encode_lower wanted 32 fits.0 fits.1 in
    let both : decode_sized digits 32 ≡ Ok wanted = ap (λ d. decode_sized d 32) e ∙ decoded in
    let same : wanted ≡ key = cc (both, is) in
    other (e ∙ ap encode_lower same)

-- what `strip_prefix` answers
pub stripped : (text front : Bytes) (r : Option (Bor Bytes))
    → MatchOption r ((rest : Bytes) → text ≢ front ++ rest) (λ x. text ≡ front ++ x.now)
    → IsBehind front text (option_map (λ rest. rest.now) r)
stripped text front None h = h
stripped text front (Some x) h = h
