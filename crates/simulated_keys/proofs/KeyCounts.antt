-- Keys with so many parties: how many, and one more.
use Rattle.std.proofs.Common.{◌≡◌, ℕ, ◌+◌, List, [], ◌∷◌, ◌++◌, length, append_assoc, ap, ◌∙◌, sym, refl}
use Rattle.std.proofs.lemmas.List.FromFn.{length-map-range_with_len, map-range_with_len_more}
use Rattle.definitions.specs.Bytes.{Bytes}
use Rattle.simulated_keys.specs.Keys.{simulated_key, keys_with}

pub length_keys : (party first count : ℕ) → length (keys_with party first count) ≡ count
length_keys party first count = length-map-range_with_len (simulated_key party) first count

pub one_more_key : (keys : List Bytes) (party first count : ℕ)
    → keys ++ keys_with party first (count + 1)
    ≡ (keys ++ keys_with party first count) ++ simulated_key party (first + count) ∷ []
one_more_key keys party first count =
    ap (λ more. keys ++ more) (map-range_with_len_more (simulated_key party) first count (first + count) refl)
    ∙ sym (append_assoc keys (keys_with party first count) (simulated_key party (first + count) ∷ []))
