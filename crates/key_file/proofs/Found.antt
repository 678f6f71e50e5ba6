-- Which parties share a key: each replica with each party, as far as the holder has it.
use Rattle.std.proofs.Common.{◌≡◌, ℕ, ◌+◌, ◌-◌, ◌<◌, ◌≤◌, Bool, true, false, ◌&&◌, ◌||◌, ◌==◌, cond}
use Rattle.std.proofs.Common.{List, [], ◌∷◌, ◌++◌, Option, Some, None, arith, refl, ◌∙◌, ap, append_assoc}
use Rattle.std.proofs.Common.{min, max, suc}
use Rattle.std.specs.Prelude.{option_map, find, filter, IsSome, is_some, nat_le}
use Rattle.std.specs.List.{flat_map, range_with_len}
use Rattle.std.proofs.lemmas.Bool.{eq-eqb}
use Rattle.std.proofs.lemmas.Bool.Decides.{nat_tests}
use Rattle.std.proofs.lemmas.List.Elements.{filter-append}
use Rattle.ids.specs.Sizes.{Sizes, replicas, client_party}
use Rattle.definitions.specs.Keyrings.{is_replica_of, is_client_of, is_party_of}
use Rattle.key_file.specs.declared.holder.Holder.{Holder}
use Rattle.key_file.specs.declared.holder.Holder.TheVariants.{Everyone}
use Rattle.key_file.specs.declared.pair_key.PairKey.{PairKey}
use Rattle.key_file.specs.Holders.{acts_for, has_pair, pairs_held}
use Rattle.key_file.specs.KeyFile.{AreOf, HasKeys, pairs_with, pairs_of, pairs, found_key}
use Rattle.key_file.proofs.Files.{pairs_split, pairs_before, rows_split}

-- the key is that of this pair
abbrev of_pair : ℕ → ℕ → PairKey → Bool
of_pair x y k = (k.one == x) && (k.other == y)

-- ---- a pair of the file has a key

first_or : (is : Bool) (k : PairKey) (later : Option PairKey) → is_some later ≡ true
    → is_some (cond is (Some k) later) ≡ true
first_or true k later there = refl
first_or false k later there = there

found_among : (before after : List (ℕ × ℕ)) (x y : ℕ) (keys : List PairKey)
    → AreOf (before ++ (x, y) ∷ after) keys → is_some (find (of_pair x y) keys) ≡ true
found_among [] after x y [] are = absurd are
found_among (p ∷ ps) after x y [] are = absurd are
found_among [] after x y (k ∷ ks) are =
    rw (eq-eqb k.one x are.0, eq-eqb k.other y are.1) refl
found_among (p ∷ ps) after x y (k ∷ ks) are =
    first_or (of_pair x y k) k (find (of_pair x y) ks) (found_among ps after x y ks are.3)

-- and so it has among those that are kept
found_kept : (kept : ℕ × ℕ → Bool) (before after : List (ℕ × ℕ)) (x y : ℕ) (keys : List PairKey)
    → kept (x, y) ≡ true → AreOf (filter kept (before ++ (x, y) ∷ after)) keys
    → is_some (find (of_pair x y) keys) ≡ true
found_kept kept before after x y keys is are =
    let whole : filter kept (before ++ (x, y) ∷ after) ≡ filter kept before ++ (x, y) ∷ filter kept after
    = filter-append kept before ((x, y) ∷ after) ∙ rw is refl in
    found_among (filter kept before) (filter kept after) x y keys (rw whole at are)

-- two parties stand in a row: at the place of the second one
row_at : (one first i more : ℕ) → pairs_with one first (i + suc more)
    ≡ pairs_with one first i ++ (one, first + i) ∷ pairs_with one (first + i + 1) more
row_at one first i more = pairs_split one first i (suc more)

-- what stands in a part of a row, in the whole
seam : (a b c d : List (ℕ × ℕ)) (p : ℕ × ℕ) → a ++ ((b ++ p ∷ c) ++ d) ≡ (a ++ b) ++ p ∷ (c ++ d)
seam a b c d p = simp append_assoc

-- the row of a replica, in the file
rows_at : (sizes : Sizes) (x : ℕ) → x < replicas sizes
    → pairs sizes
    ≡ pairs_before sizes x
    ++ (pairs_of sizes x ++ flat_map (pairs_of sizes) (range_with_len (x + 1) (replicas sizes - suc x)))
rows_at sizes x below =
    let e : replicas sizes ≡ x + suc (replicas sizes - suc x) = omega arith in
    ap (pairs_before sizes) e ∙ rows_split sizes x (suc (replicas sizes - suc x))

-- a replica and one that isn't before it
replicas_found : (kept : ℕ × ℕ → Bool) (sizes : Sizes) (x y : ℕ) (keys : List PairKey)
    → AreOf (filter kept (pairs sizes)) keys → kept (x, y) ≡ true
    → x ≤ y → y < replicas sizes → is_some (find (of_pair x y) keys) ≡ true
replicas_found kept sizes x y keys are is low high =
    let n = replicas sizes in
    let more = flat_map (pairs_of sizes) (range_with_len (x + 1) (n - suc x)) in
    let clients = pairs_with x (client_party 0) sizes.clients in
    let front = pairs_with x x (y - x) in
    let behind = pairs_with x (y + 1) (n - suc y) in
    let place : x + (y - x) ≡ y = omega arith in
    let count : n - x ≡ (y - x) + suc (n - suc y) = omega arith in
    let row : pairs_with x x (n - x) ≡ front ++ (x, y) ∷ behind =
    ap (pairs_with x x) count ∙ (rw place at (row_at x x (y - x) (n - suc y))) in
    let all : pairs sizes ≡ (pairs_before sizes x ++ front) ++ (x, y) ∷ (behind ++ (clients ++ more)) =
    rows_at sizes x (omega arith)
    ∙ ap (λ r. pairs_before sizes x ++ ((r ++ clients) ++ more)) row
    ∙ simp append_assoc in
    found_kept kept (pairs_before sizes x ++ front) (behind ++ (clients ++ more)) x y keys is (rw all at are)

-- a replica and a client
client_found : (kept : ℕ × ℕ → Bool) (sizes : Sizes) (x c : ℕ) (keys : List PairKey)
    → AreOf (filter kept (pairs sizes)) keys → kept (x, client_party c) ≡ true
    → x < replicas sizes → c < sizes.clients → is_some (find (of_pair x (client_party c)) keys) ≡ true
client_found kept sizes x c keys are is low high =
    let n = replicas sizes in
    let more = flat_map (pairs_of sizes) (range_with_len (x + 1) (n - suc x)) in
    let own = pairs_with x x (n - x) in
    let front = pairs_with x (client_party 0) c in
    let behind = pairs_with x (client_party c + 1) (sizes.clients - suc c) in
    let count : sizes.clients ≡ c + suc (sizes.clients - suc c) = omega arith in
    let row : pairs_with x (client_party 0) sizes.clients ≡ front ++ (x, client_party c) ∷ behind =
    ap (pairs_with x (client_party 0)) count ∙ row_at x (client_party 0) c (sizes.clients - suc c) in
    let all : pairs sizes
    ≡ (pairs_before sizes x ++ (own ++ front)) ++ (x, client_party c) ∷ (behind ++ more) =
    rows_at sizes x low
    ∙ ap (λ r. pairs_before sizes x ++ ((own ++ r) ++ more)) row
    ∙ simp append_assoc in
    found_kept kept (pairs_before sizes x ++ (own ++ front)) (behind ++ more) x (client_party c) keys is
    (rw all at are)

-- ---- the keys of two parties

mapped : (o : Option PairKey) → is_some (option_map (λ k. k.key) o) ≡ is_some o
mapped None = refl
mapped (Some k) = refl

-- a replica shares one with each party, where that pair is kept
pub key_there : (kept : ℕ × ℕ → Bool) (sizes : Sizes) (keys : List PairKey) (a b : ℕ)
    → AreOf (filter kept (pairs sizes)) keys → kept (min a b, max a b) ≡ true
    → replicas sizes ≤ 256 → is_replica_of sizes a ≡ true → is_party_of sizes b ≡ true
    → IsSome (found_key keys a b)
key_there kept sizes keys a b are is few replica party =
    mapped (find (of_pair (min a b) (max a b)) keys) ∙ pair
  where
    by : (other : Bool) → is_replica_of sizes b ≡ other
        → is_some (find (of_pair (min a b) (max a b)) keys) ≡ true
    by true other =
        let first : a < replicas sizes = grind (arith, nat_tests) in
        let second : b < replicas sizes = grind (arith, nat_tests) in
        replicas_found kept sizes (min a b) (max a b) keys are is (omega arith) (omega arith)
    by false other =
        let first : a < replicas sizes = grind (arith, nat_tests) in
        let client : is_client_of sizes b ≡ true = rw other at party in
        let low : 256 ≤ b = grind (arith, nat_tests) in
        let high : b < 256 + sizes.clients = grind (arith, nat_tests) in
        let x : min a b ≡ a = omega arith in
        let y : max a b ≡ client_party (b - 256) = omega arith in
        rw (x, y) (client_found kept sizes a (b - 256) keys are (rw (x, y) at is) first (omega arith))

    pair : is_some (find (of_pair (min a b) (max a b)) keys) ≡ true
    pair = by (is_replica_of sizes b) refl

same_key : (keys : List PairKey) (a b : ℕ) → found_key keys a b ≡ found_key keys b a
same_key keys a b =
    let x : min a b ≡ min b a = omega arith in
    let y : max a b ≡ max b a = omega arith in
    rw (x, y) refl

-- ---- all keys of a party

or-true : (x : Bool) → (x || true) ≡ true
or-true true = refl
or-true false = refl

-- a pair is kept where its holder acts for one of the two
pair_kept : (holder : Holder) (a b : ℕ) → acts_for holder a ≡ true → has_pair holder (min a b, max a b) ≡ true
pair_kept holder a b own = by (nat_le a b) refl
  where
    by : (is : Bool) → nat_le a b ≡ is → has_pair holder (min a b, max a b) ≡ true
    by true is =
        let x : min a b ≡ a = grind (arith, nat_tests) in
        rw (x, own) refl
    by false is =
        let y : max a b ≡ a = grind (arith, nat_tests) in
        rw (y, own) (or-true (acts_for holder (min a b)))

pair_kept_of : (holder : Holder) (a b : ℕ) → acts_for holder b ≡ true → has_pair holder (min a b, max a b) ≡ true
pair_kept_of holder a b own =
    let x : min a b ≡ min b a = omega arith in
    let y : max a b ≡ max b a = omega arith in
    rw (x, y) (pair_kept holder b a own)

-- a party that the holder acts for shares one with each replica
pub with_replicas : (holder : Holder) (sizes : Sizes) (keys : List PairKey) (party : ℕ)
    → AreOf (pairs_held holder sizes) keys → acts_for holder party ≡ true
    → replicas sizes ≤ 256 → is_party_of sizes party ≡ true → HasKeys keys party 0 (replicas sizes)
with_replicas holder sizes keys party are own few there = λ i below.
    let place : 0 + i ≡ i = omega arith in
    let replica : is_replica_of sizes i ≡ true = grind (arith, nat_tests) in
    rw (place, same_key keys party i)
    (key_there (has_pair holder) sizes keys i party are (pair_kept_of holder i party own) few replica there)

-- and a replica with each client
pub with_clients : (holder : Holder) (sizes : Sizes) (keys : List PairKey) (party : ℕ)
    → AreOf (pairs_held holder sizes) keys → acts_for holder party ≡ true
    → replicas sizes ≤ 256 → party < replicas sizes → HasKeys keys party (client_party 0) sizes.clients
with_clients holder sizes keys party are own few low = λ i below.
    let replica : is_replica_of sizes party ≡ true = grind (arith, nat_tests) in
    let client : is_party_of sizes (client_party 0 + i) ≡ true = grind (arith, nat_tests) in
    key_there (has_pair holder) sizes keys party (client_party 0 + i) are
    (pair_kept holder party (client_party 0 + i) own) few replica client

-- ---- everyone's file

-- everyone has each pair
pub all_kept : (ps : List (ℕ × ℕ)) → filter (has_pair Everyone) ps ≡ ps
all_kept [] = refl
all_kept (p ∷ ps) = ap (λ more. p ∷ more) (all_kept ps)
