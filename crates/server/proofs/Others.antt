-- One replica more in a row of them.
use Rattle.std.proofs.Common.{◌≡◌, ℕ, ◌+◌, List, [], ◌∷◌, ◌++◌, map, ap, sym, refl, ◌∙◌}
use Rattle.std.proofs.lemmas.List.{map_push}
use Rattle.std.proofs.lemmas.List.FromFn.{map-range_with_len_more}
use Rattle.std.specs.List.{range_with_len}
use Rattle.ids.specs.Sizes.{Sizes}
use Rattle.replica.specs.Steps.{Held}
use Rattle.server.specs.Ends.{AreFrom}

abbrev seat : Held → Sizes × ℕ
seat one = (one.keys.sizes, one.keys.party)

pub others_more : (sizes : Sizes) (first n next : ℕ) (before after : List Held) (one : Held)
    → after ≡ before ++ one ∷ [] → AreFrom sizes first n before
    → (one.keys.sizes ≡ sizes) × (one.keys.party ≡ first + n) → next ≡ n + 1 → AreFrom sizes first next after
others_more sizes first n next before after one made are is more =
    let seats : ℕ → Sizes × ℕ = λ number. (sizes, number) in
    let here : seat one ≡ seats (first + n) =
    ap (λ (s : Sizes). let t : Sizes × ℕ = (s, one.keys.party) in t) is.0 ∙ ap seats is.1 in
    ap (map {B = Sizes × ℕ} seat) made
    ∙ map_push seat before one
    ∙ ap (λ ks. ks ++ seat one ∷ []) are
    ∙ ap (λ k. map seats (range_with_len first n) ++ k ∷ []) here
    ∙ sym (map-range_with_len_more seats first n (first + n) refl)
    ∙ ap (λ m. map seats (range_with_len first m)) (sym more)
