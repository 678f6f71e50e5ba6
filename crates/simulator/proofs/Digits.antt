-- What is read of hexadecimal digits.
use Rattle.std.proofs.Common.{◌≡◌, ◌≢◌, ◌⊎◌, inl, inr, ◌<◌, ℕ, length, Ok, Err, arith, sym, ap, ◌∙◌, Vec, Result}
use Rattle.std.proofs.Common.{Global, Some, None, subst, Bool, true, false, not, refl, bytes_eq}
use Rattle.std.proofs.lemmas.Slice.Eq.{bytes_eq-Decides}
use Rattle.std.specs.Prelude.{MatchResult, OnOk, Decides}
use Rattle.std.specs.Result.{result_ok}
use Rattle.hex.specs.Hex.{encode_lower, lower_digits, decode_of, decode_sized, IsBytes}
use Rattle.hex.specs.declared.error.FromHexError.{FromHexError}
use Rattle.hex.specs.declared.error.FromHexError.TheVariants.{InvalidHexCharacter, InvalidStringLength}
use Rattle.hex.specs.declared.error.FromHexError.TheVariants.{OddLength, OutOfMemory}
use Rattle.hex.proofs.HexLemmas.{length-encode_with, decode_of-encode_lower, decode_of-ok}
use Rattle.hex.proofs.HexLemmas.{decode_sized-encode_lower, decode_sized-twice, decode_sized-ok}
use Rattle.definitions.specs.Bytes.{Bytes}
use Rattle.simulator.specs.Texts.{IsReading, undecoded}
use Rattle.simulator.specs.Lines.{IsDigest}

pub never_written : (digits : Bytes) (e : FromHexError) → e ≢ OutOfMemory
    → (e ≡ OutOfMemory) ⊎ (decode_of digits ≡ Err e) → (bytes : Bytes) → IsBytes bytes
    → encode_lower bytes ≢ digits
never_written digits e other (inl out) bytes fits spelled = other out
never_written digits e other (inr failed) bytes fits spelled =
    let good : decode_of digits ≡ Ok bytes =
    ap decode_of (sym spelled) ∙ decode_of-encode_lower bytes fits in cc

pub not_decoded : (digits : Bytes) (e : FromHexError) → (e ≡ OutOfMemory) ⊎ (decode_of digits ≡ Err e)
    → IsReading (λ (v : Vec ℕ Global). encode_lower v.items) (λ v. IsBytes v.items) digits (Err (undecoded e))
not_decoded digits OutOfMemory failed = tt
not_decoded digits (InvalidHexCharacter c i) failed =
    λ v fits. never_written digits (InvalidHexCharacter c i) (λ e. cc e) failed v.items fits
not_decoded digits OddLength failed = λ v fits. never_written digits OddLength (λ e. cc e) failed v.items fits
not_decoded digits InvalidStringLength failed =
    λ v fits. never_written digits InvalidStringLength (λ e. cc e) failed v.items fits

-- other digits than those that were decoded write nothing
pub other_digits : (digits bytes : Bytes) → decode_of digits ≡ Ok bytes → digits ≢ encode_lower bytes
    → (other : Bytes) → IsBytes other → encode_lower other ≢ digits
other_digits digits bytes decoded differ other fits spelled =
    let good : decode_of digits ≡ Ok other = ap decode_of (sym spelled) ∙ decode_of-encode_lower other fits in
    let same : other ≡ bytes = cc (good, decoded) in
    differ (sym spelled ∙ ap encode_lower same)

-- there are digits exactly where there are bytes
pub some_bytes : (bytes digits : Bytes) → encode_lower bytes ≡ digits → 0 < length digits → 0 < length bytes
some_bytes bytes digits spelled some =
    let e = length-encode_with lower_digits bytes in let n = ap length spelled in omega (arith, e, n, some)

pub some_digits : (bytes digits : Bytes) → encode_lower bytes ≡ digits → 0 < length bytes → 0 < length digits
some_digits bytes digits spelled some =
    let e = length-encode_with lower_digits bytes in let n = ap length spelled in omega (arith, e, n, some)

-- ---- digests

abbrev Decoded : Result Bytes FromHexError → Result (Unit {0}) FromHexError → Bytes → Type 0
Decoded d r out = MatchResult d (λ bytes. (r ≡ Ok tt) × (out ≡ bytes)) (λ e. r ≡ Err e)

-- what was decoded
pub digest_decoded : (d : Result Bytes FromHexError) (r : Result (Unit {0}) FromHexError) (out : Bytes)
    → Decoded d r out → result_ok r ≡ Some tt → d ≡ Ok out
digest_decoded (Ok bytes) r out h ok = ap Ok (sym h.1)
digest_decoded (Err e) r out h ok = let failed : r ≡ Err e = h in let never : ⊥ = cc (failed, ok) in absurd never

spelled_digest : (word d : Bytes) → IsDigest d → encode_lower d ≡ word → decode_sized word 32 ≡ Ok d
spelled_digest word d fits spelled =
    ap (λ w. decode_sized w 32) (sym spelled) ∙ decode_sized-encode_lower d 32 fits.1 fits.0

-- where nothing was decoded, no digest is spelled
pub no_digest : (word : Bytes) (r : Result (Unit {0}) FromHexError) (out : Bytes)
    → Decoded (decode_sized word 32) r out → result_ok r ≡ None → (d : Bytes) → IsDigest d
    → encode_lower d ≢ word
no_digest word r out h none d fits spelled =
    let ok = subst (λ x. Decoded x r out) (spelled_digest word d fits spelled) h in
    let fine : r ≡ Ok tt = ok.0 in
    let never : ⊥ = cc (fine, none) in never

-- nor where other digits write what was decoded
pub other_digest : (word out : Bytes) → decode_sized word 32 ≡ Ok out → encode_lower out ≢ word
    → (d : Bytes) → IsDigest d → encode_lower d ≢ word
other_digest word out decoded differ d fits spelled =
    let good = spelled_digest word d fits spelled in
    let same : d ≡ out = cc (good, decoded) in
    differ (ap encode_lower (sym same) ∙ spelled)

-- what was decoded is a digest
pub is_digest : (word out : Bytes) → decode_sized word 32 ≡ Ok out → length out ≡ 32 → IsDigest out
is_digest word out decoded long =
    let whole : decode_of word ≡ Ok out =
    sym (decode_sized-twice word 32 (decode_sized-ok word 32 out decoded)) ∙ decoded in
    ((decode_of-ok word out whole).3, long)

pub on_ok : {P : Type 0} (r : Result (Unit {0}) FromHexError) → result_ok r ≡ Some tt → OnOk r P → P
on_ok (Ok x) ok p = p
on_ok (Err e) ok p = let never : ⊥ = cc ok in absurd never

-- ---- two texts

by_test : (b : Bool) (a c : Bytes) → Decides b (a ≡ c) → true ≡ not b → a ≢ c
by_test false a c d e same = let yes : false ≡ true = d.1 same in let never : ⊥ = cc yes in never
by_test true a c d e same = let never : ⊥ = cc e in never

pub different : (a c : Bytes) → true ≡ not (bytes_eq a c) → a ≢ c
different a c e = by_test (bytes_eq a c) a c (bytes_eq-Decides a c) e

by_no_test : (b : Bool) (a c : Bytes) → Decides b (a ≡ c) → false ≡ not b → a ≡ c
by_no_test true a c d e = d.0 refl
by_no_test false a c d e = let never : ⊥ = cc e in absurd never

pub alike : (a c : Bytes) → false ≡ not (bytes_eq a c) → a ≡ c
alike a c e = by_no_test (bytes_eq a c) a c (bytes_eq-Decides a c) e
