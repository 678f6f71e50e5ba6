-- What stands at one seat more.
use Rattle.std.proofs.Common.{◌≡◌, ℕ, ◌+◌, List, [], ◌∷◌, ◌++◌, map, ap, sym, ◌∙◌, arith}
use Rattle.std.proofs.lemmas.List.{map_push}
use Rattle.std.proofs.lemmas.List.FromFn.{map-range_with_len_more}
use Rattle.std.specs.List.{range_with_len}

-- what is seen of the first n, and then of one more
pub seen_more : {S X : Type 0} (f : S → X) (g : ℕ → X) (before after : List S) (one : S) (n next : ℕ)
    → after ≡ before ++ one ∷ [] → map f before ≡ map g (range_with_len 0 n) → f one ≡ g n → next ≡ n + 1
    → map f after ≡ map g (range_with_len 0 next)
seen_more f g before after one n next made so_far is behind =
    let more : n + 1 ≡ next = omega (arith, behind) in
    ap (map f) made
    ∙ map_push f before one
    ∙ ap (λ xs. xs ++ f one ∷ []) so_far
    ∙ ap (λ x. map g (range_with_len 0 n) ++ x ∷ []) is
    ∙ sym (map-range_with_len_more g 0 n n (omega arith))
    ∙ ap (λ k. map g (range_with_len 0 k)) more
