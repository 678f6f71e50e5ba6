-- A party's keys, one more.
use Rattle.std.proofs.Common.{◌≡◌, ℕ, ◌+◌, List, [], ◌∷◌, ◌++◌, Some, append_assoc, ap, ◌∙◌, sym, refl}
use Rattle.std.proofs.lemmas.List.FromFn.{map-range_with_len_more}
use Rattle.definitions.specs.Bytes.{Bytes}
use Rattle.key_file.specs.declared.pair_key.PairKey.{PairKey}
use Rattle.key_file.specs.KeyFile.{found_key, key_between, keys_with}

pub one_more_key : (all : List PairKey) (before keys now : List Bytes) (party first i : ℕ) (key : Bytes)
    → keys ≡ before ++ keys_with all party first i
    → found_key all party (first + i) ≡ Some key → now ≡ keys ++ key ∷ []
    → now ≡ before ++ keys_with all party first (i + 1)
one_more_key all before keys now party first i key so_far found pushed =
    let is : key_between all party (first + i) ≡ key = rw found refl in
    let more = map-range_with_len_more (key_between all party) first i (first + i) refl in
    pushed ∙ ap (λ ks. ks ++ key ∷ []) so_far ∙ append_assoc before (keys_with all party first i) (key ∷ [])
    ∙ ap (λ ks. before ++ ks) (ap (λ k. keys_with all party first i ++ k ∷ []) (sym is) ∙ sym more)
