-- The number of one station more.
use Rattle.std.proofs.Common.{◌≡◌, ℕ, zero, suc, ◌+◌, List, [], ◌∷◌, ◌++◌, map, ap, sym, ◌∙◌, arith}
use Rattle.std.proofs.lemmas.List.{map_push}
use Rattle.std.specs.List.{range_with_len}
use Rattle.station.specs.Stations.{Station, numbers_of}

range_more : (a n j : ℕ) → a + n ≡ j → range_with_len a n ++ j ∷ [] ≡ range_with_len a (suc n)
range_more a zero j at = let e : j ≡ a = omega (arith, at) in ap (λ k. k ∷ []) e
range_more a (suc n) j at = ap (λ ks. a ∷ ks) (range_more (a + 1) n j (omega (arith, at)))

pub numbers_more : (before after : List Station) (station : Station) (n next : ℕ)
    → after ≡ before ++ station ∷ [] → numbers_of before ≡ range_with_len 0 n → station.number ≡ n → next ≡ n + 1
    → numbers_of after ≡ range_with_len 0 next
numbers_more before after station n next made numbers is one =
    let more : suc n ≡ next = omega (arith, one) in
    ap numbers_of made
    ∙ map_push (λ (one : Station). one.number) before station
    ∙ ap (λ ks. ks ++ station.number ∷ []) numbers
    ∙ ap (λ k. range_with_len 0 n ++ k ∷ []) is
    ∙ range_more 0 n n (omega arith)
    ∙ ap (range_with_len 0) more
