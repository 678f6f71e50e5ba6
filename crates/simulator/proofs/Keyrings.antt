-- The keyrings of all parties are theirs.
use Rattle.std.proofs.Common.{◌≡◌, ℕ, ◌+◌, ◌-◌, ◌<◌, ◌≤◌, Bool, true, false, List, [], ◌∷◌, ◌++◌, map}
use Rattle.std.proofs.Common.{get_or, arith, refl, sym, ap, ◌∙◌, nat_lt, nat_le, cond, append_assoc}
use Rattle.std.specs.List.{range_with_len}
use Rattle.std.proofs.lemmas.Bool.{ltb-true, ltb-false, le-ltb, leb-true, and_parts}
use Rattle.std.proofs.lemmas.List.{length-append, get_or-append_right}
use Rattle.std.proofs.lemmas.List.FromFn.{length-map-range_with_len, get_or-map-range_with_len}
use Rattle.std.proofs.lemmas.List.FromFn.{map-range_with_len_more}
use Rattle.std.proofs.Math.ListN.{get_or-append}
use Rattle.ids.specs.Sizes.{Sizes, replicas, client_party}
use Rattle.definitions.specs.Keyrings.{Keys, is_client_of, is_party_of}
use Rattle.simulated_keys.specs.Keys.{simulated_keys}
use Rattle.world_schedule.specs.Settings.{AreKeyrings, keys_at, no_keys}
use Rattle.simulator.specs.Simulations.{all_keys}

abbrev pub replicas_keys : Sizes → ℕ → List Keys
replicas_keys sizes n = map (simulated_keys sizes) (range_with_len 0 n)

abbrev pub clients_keys : Sizes → ℕ → List Keys
clients_keys sizes n = map (λ c. simulated_keys sizes (client_party c)) (range_with_len 0 n)

pub one_more_replica : (sizes : Sizes) (n : ℕ)
    → replicas_keys sizes (n + 1) ≡ replicas_keys sizes n ++ simulated_keys sizes n ∷ []
one_more_replica sizes n = map-range_with_len_more (simulated_keys sizes) 0 n n (omega arith)

pub one_more_client : (sizes : Sizes) (before : List Keys) (n : ℕ)
    → before ++ clients_keys sizes (n + 1)
    ≡ (before ++ clients_keys sizes n) ++ simulated_keys sizes (client_party n) ∷ []
one_more_client sizes before n =
    ap (λ more. before ++ more)
    (map-range_with_len_more (λ c. simulated_keys sizes (client_party c)) 0 n n (omega arith))
    ∙ sym (append_assoc before (clients_keys sizes n) (simulated_keys sizes (client_party n) ∷ []))

-- the keyring at a party's place is its own
own_at : (sizes : Sizes) (p : ℕ) → replicas sizes ≤ 256 → is_party_of sizes p ≡ true
    → keys_at sizes (all_keys sizes) p ≡ simulated_keys sizes p
own_at sizes p few there = by (nat_lt p 256) refl
  where
    by : (low : Bool) → nat_lt p 256 ≡ low
        → get_or (all_keys sizes) (cond low p (replicas sizes + (p - 256))) (no_keys sizes p)
        ≡ simulated_keys sizes p
    by true low = replica (nat_lt p (replicas sizes)) refl
      where
        replica : (is : Bool) → nat_lt p (replicas sizes) ≡ is
            → get_or (all_keys sizes) p (no_keys sizes p) ≡ simulated_keys sizes p
        replica true is =
            let within : p < replicas sizes = ltb-true p (replicas sizes) is in
            let len = length-map-range_with_len (simulated_keys sizes) 0 (replicas sizes) in
            get_or-append (replicas_keys sizes (replicas sizes)) (clients_keys sizes sizes.clients)
            (no_keys sizes p) p (omega (arith, len, within))
            ∙ get_or-map-range_with_len (simulated_keys sizes) 0 (replicas sizes) p p (no_keys sizes p)
            within (omega arith)
        replica false is =
            let client : is_client_of sizes p ≡ true = rw is at there in
            let parts = and_parts (nat_le 256 p) (nat_lt p (256 + sizes.clients)) client in
            let above = leb-true 256 p parts.0 in
            let below = ltb-true p 256 low in
            absurd (omega (arith, above, below))
    by false high =
        let above = ltb-false p 256 high in
        let beyond : nat_lt p (replicas sizes) ≡ false =
        le-ltb p (replicas sizes) (omega (arith, above, few)) in
        let client : is_client_of sizes p ≡ true = rw beyond at there in
        let parts = and_parts (nat_le 256 p) (nat_lt p (256 + sizes.clients)) client in
        let below = ltb-true p (256 + sizes.clients) parts.1 in
        let len = length-map-range_with_len (simulated_keys sizes) 0 (replicas sizes) in
        get_or-append_right (replicas_keys sizes (replicas sizes)) (clients_keys sizes sizes.clients)
        (replicas sizes) (replicas sizes + (p - 256)) (no_keys sizes p) len (omega arith)
        ∙ ap (λ n. get_or (clients_keys sizes sizes.clients) n (no_keys sizes p)) (omega arith)
        ∙ get_or-map-range_with_len (λ c. simulated_keys sizes (client_party c)) 0 sizes.clients (p - 256)
        (p - 256) (no_keys sizes p) (omega (arith, above, below)) (omega arith)
        ∙ ap (simulated_keys sizes) (omega (arith, above))

pub are_keyrings : (sizes : Sizes) → replicas sizes ≤ 256 → AreKeyrings sizes (all_keys sizes)
are_keyrings sizes few =
    let one = length-map-range_with_len (simulated_keys sizes) 0 (replicas sizes) in
    let other = length-map-range_with_len (λ c. simulated_keys sizes (client_party c)) 0 sizes.clients in
    let both = length-append (replicas_keys sizes (replicas sizes)) (clients_keys sizes sizes.clients) in
    record {
      count = omega (arith, one, other, both);
      each =
          λ p there. let own =
          own_at sizes p few there in
          record {
            sizes_are = ap (λ (k : Keys). k.sizes) own;
            party_is = ap (λ (k : Keys). k.party) own;
          };
    }
