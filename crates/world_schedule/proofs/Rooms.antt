-- Keyrings of a world whose caches have another room.
use Rattle.std.proofs.Common.{ℕ, zero, suc, ◌≡◌, List, [], ◌∷◌, map, refl, sym, ap, ◌∙◌, subst}
use Rattle.std.proofs.Common.{slice_index_or, None, Some, inr, Result, Ok, Err}
use Rattle.std.specs.Prelude.{IfErr, MatchResult}
use Rattle.std.proofs.lemmas.List.{length-map}
use Rattle.ids.specs.declared.fault.Fault.{Fault}
use Rattle.ids.specs.Sizes.{Sizes, IsRoom}
use Rattle.definitions.specs.Keyrings.{Keys, place_of}
use Rattle.world_schedule.specs.Settings.{Setting, AreKeyrings, HasNoWorld, IsKeyringOf, no_keys, why_not, with_room}

index-map : {A B : Type 0} (f : A → B) (xs : List A) (i : ℕ) (d : A)
    → slice_index_or (map f xs) i (f d) ≡ f (slice_index_or xs i d)
index-map f [] zero d = refl
index-map f [] (suc i) d = refl
index-map f (x ∷ xs) zero d = refl
index-map f (x ∷ xs) (suc i) d = index-map f xs i d

pub keyrings-with_room : (sizes : Sizes) (keyrings : List Keys) (most_keys : ℕ) → AreKeyrings sizes keyrings
    → AreKeyrings (record sizes { most_keys = most_keys }) (map (with_room most_keys) keyrings)
keyrings-with_room sizes keyrings most_keys a = record {
  count = length-map keyrings (with_room most_keys) ∙ a.count;
  each = λ p h. (let k = a.each p h in
      subst (λ (x : Keys). IsKeyringOf (record sizes { most_keys = most_keys }) p x)
      (sym (index-map (with_room most_keys) keyrings (place_of sizes p) (no_keys sizes p)))
      (record {
        sizes_are = ap (λ (s : Sizes). record s { most_keys = most_keys }) k.sizes_are;
        party_is = k.party_is;
      }));
}

-- with a room as it may be, there is no world for the faulty parties alone
pub refused-parties : (r : Result Setting Fault) (config sizes : Sizes) (faulty : List ℕ) (most_keys : ℕ)
    → sizes ≡ record config { most_keys = most_keys } → IsRoom most_keys
    → MatchResult r (λ _. why_not sizes faulty ≡ None) (λ n. why_not sizes faulty ≡ Some n)
    → IfErr r (HasNoWorld config faulty most_keys)
refused-parties (Ok w) config sizes faulty most_keys e room no_fault = tt
refused-parties (Err n) config sizes faulty most_keys e room fault =
    inr (room, subst (λ (s : Sizes). why_not s faulty ≡ Some n) e fault)
