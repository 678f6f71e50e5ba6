-- The entry of the least last use is the last one.
use Rattle.std.proofs.Common.{◌≡◌, ℕ, ◌<◌, ◌⊎◌, inl, inr, Bool, true, false, cond, List, [], ◌∷◌}
use Rattle.std.proofs.Common.{length, refl, sym, ap, ◌∙◌, Option, Some, None, is_some, arith, take}
use Rattle.std.proofs.Common.{nat_le, ◌||◌, ◌&&◌}
use Rattle.std.specs.Global.{Vec}
use Rattle.std.specs.Map.{lookup, remove_entry}
use Rattle.std.specs.List.{list_all, list_any}
use Rattle.std.specs.List as list
use Rattle.std.specs.Option.{option_map, option_map_or}
use Rattle.std.specs.Cmp.Lexicographic.{texts_ties, same_text}
use Rattle.std.specs.FinMap as map
use Rattle.std.specs.FinMap.{contains_key-keys}
use Rattle.std.proofs.lemmas.Bool.{cond-true, cond-false, and_parts, leb-true, le-leb}
use Rattle.definitions.specs.Bytes.{Bytes}
use Rattle.definitions.specs.Cache.{CacheItem, Cache, last_use, is_least_used, least_used}
use Rattle.cache.specs.declared.entry.Entry.{Entry}
use Rattle.cache.specs.Tables.{Entries, last_use_in, item_of, table_of, cache_of}
use Rattle.cache.proofs.Lookups.{is_at, same, laws, same-is, get-table, has-table}
use Rattle.cache.proofs.Orders.{AllBefore, Falls, removed-table}

-- ---- the last entry, and those before it

abbrev pub oldest : Vec ℕ × Entry → Entries → Bytes
oldest e [] = e.0.items
oldest e (f ∷ fs) = oldest f fs

abbrev pub but_oldest : Vec ℕ × Entry → Entries → Entries
but_oldest e [] = []
but_oldest e (f ∷ fs) = e ∷ but_oldest f fs

pub take-but_oldest : (e : Vec ℕ × Entry) (fs : Entries) → take (length fs) (e ∷ fs) ≡ but_oldest e fs
take-but_oldest e [] = refl
take-but_oldest e (f ∷ fs) = ap (λ (l : Entries). e ∷ l) (take-but_oldest f fs)

oldest-before : (used : List Bytes) (n : ℕ) (e : Vec ℕ × Entry) (fs : Entries) → AllBefore used n (e ∷ fs)
    → last_use_in used (oldest e fs) < n
oldest-before used n e [] h = h.0
oldest-before used n e (f ∷ fs) h = oldest-before used n f fs h.1

pub length-but_oldest : (e : Vec ℕ × Entry) (fs : Entries) → length (but_oldest e fs) ≡ length fs
length-but_oldest e [] = refl
length-but_oldest e (f ∷ fs) = let n = length-but_oldest f fs in omega (arith, n)

-- the last one is taken out by its key
pub but_oldest-removes : (used : List Bytes) (e : Vec ℕ × Entry) (fs : Entries) → Falls used (e ∷ fs)
    → but_oldest e fs ≡ remove_entry (is_at (oldest e fs)) (e ∷ fs)
but_oldest-removes used e [] h =
    sym (cond-true _ [] (e ∷ []) (texts_ties e.0.items e.0.items ∙ laws.refl e.0.items))
but_oldest-removes used e (f ∷ fs) h =
    ap (λ (l : Entries). e ∷ l) (but_oldest-removes used f fs h.1)
    ∙ sym (cond-false _ (f ∷ fs) (e ∷ remove_entry (is_at (oldest f fs)) (f ∷ fs)) (apart _ refl))
  where
    apart : (b : Bool) → is_at (oldest f fs) e.0 ≡ b → is_at (oldest f fs) e.0 ≡ false
    apart false k = k
    apart true k =
        let i = ap (last_use_in used) (same_text (oldest f fs) e.0.items (sym k)) in
        let l = oldest-before used (last_use_in used e.0.items) f fs h.0 in
        absurd (omega (arith, i, l))

pub table-but_oldest : (used : List Bytes) (e : Vec ℕ × Entry) (fs : Entries) → Falls used (e ∷ fs)
    → table_of used (but_oldest e fs) ≡ map.remove (table_of used (e ∷ fs)) (oldest e fs)
table-but_oldest used e fs h =
    ap (table_of used) (but_oldest-removes used e fs h) ∙ removed-table used (oldest e fs) (e ∷ fs) h

-- each key is the last one's, or was used later
abbrev IsLater : List Bytes → Vec ℕ × Entry → Entries → Bytes → Type 0
IsLater used e fs q = (q ≡ oldest e fs) ⊎ (last_use_in used (oldest e fs) < last_use_in used q)

head-later : (used : List Bytes) (e : Vec ℕ × Entry) (fs : Entries) (q : Bytes) → Falls used (e ∷ fs)
    → q ≡ e.0.items → IsLater used e fs q
head-later used e [] q h i = inl i
head-later used e (f ∷ fs) q h i =
    let l = oldest-before used (last_use_in used e.0.items) f fs h.0 in
    let j = ap (last_use_in used) i in
    inr (omega (arith, l, j))

later : (used : List Bytes) (e : Vec ℕ × Entry) (fs : Entries) (q : Bytes) → Falls used (e ∷ fs)
    → is_some (lookup (is_at q) (e ∷ fs)) ≡ true → IsLater used e fs q
later used e [] q h = by (is_at q e.0) refl
  where
    by : (b : Bool) → is_at q e.0 ≡ b → is_some (cond b (Some e.1) (lookup (is_at q) [])) ≡ true
        → IsLater used e [] q
    by true t k = head-later used e [] q h (same_text q e.0.items (sym t))
    by false t k = absurd (none k)
      where
        none : false ≡ true → ⊥
        none j = cc
later used e (f ∷ fs) q h = by (is_at q e.0) refl (later used f fs q h.1)
  where
    by : (b : Bool) → is_at q e.0 ≡ b
        → (is_some (lookup (is_at q) (f ∷ fs)) ≡ true → IsLater used f fs q)
        → is_some (cond b (Some e.1) (lookup (is_at q) (f ∷ fs))) ≡ true → IsLater used e (f ∷ fs) q
    by true t rest k = head-later used e (f ∷ fs) q h (same_text q e.0.items (sym t))
    by false t rest k = rest k

oldest-found : (e : Vec ℕ × Entry) (fs : Entries) → is_some (lookup (is_at (oldest e fs)) (e ∷ fs)) ≡ true
oldest-found e [] =
    ap is_some (cond-true _ (Some e.1) None (texts_ties e.0.items e.0.items ∙ laws.refl e.0.items))
oldest-found e (f ∷ fs) = by (is_at (oldest f fs) e.0) (oldest-found f fs)
  where
    by : (b : Bool) → is_some (lookup (is_at (oldest f fs)) (f ∷ fs)) ≡ true
        → is_some (cond b (Some e.1) (lookup (is_at (oldest f fs)) (f ∷ fs))) ≡ true
    by true rest = refl
    by false rest = rest

-- ---- searching a list of keys

either : (a b : Bool) → b ≡ true → (a || b) ≡ true
either true b m = refl
either false b m = m

all-passes : (t : Bytes → Bool) (ks : List Bytes)
    → ((k : Bytes) → list_any (same k) ks ≡ true → t k ≡ true) → list_all t ks ≡ true
all-passes t [] h = refl
all-passes t (k ∷ ks) h =
    let here : t k ≡ true = h k (ap (λ b. b || list_any (same k) ks) (laws.refl k)) in
    let rest = all-passes t ks (λ q m. h q (either (same q k) (list_any (same q) ks) m)) in
    ap (λ b. b && list_all t ks) here ∙ rest

passes-at : (t : Bytes → Bool) (ks : List Bytes) (q : Bytes) → list_all t ks ≡ true
    → list_any (same q) ks ≡ true → t q ≡ true
passes-at t [] q h m = absurd (none m)
  where
    none : false ≡ true → ⊥
    none k = cc
passes-at t (k ∷ ks) q h m = by (same q k) refl m (passes-at t ks q (and_parts _ _ h).1)
  where
    by : (b : Bool) → same q k ≡ b → (b || list_any (same q) ks) ≡ true
        → (list_any (same q) ks ≡ true → t q ≡ true) → t q ≡ true
    by true e n rest = ap t (same-is q k e) ∙ (and_parts _ _ h).0
    by false e n rest = rest n

-- what is found passes, and is there
found-passes : (t : Bytes → Bool) (ks : List Bytes) (q : Bytes) → list.find t ks ≡ Some q
    → (t q ≡ true) × (list_any (same q) ks ≡ true)
found-passes t [] q h = absurd (none h)
  where
    none : None ≡ Some q → ⊥
    none k = cc
found-passes t (k ∷ ks) q h = by (t k) refl h (found-passes t ks q)
  where
    by : (b : Bool) → t k ≡ b → cond b (Some k) (list.find t ks) ≡ Some q
        → (list.find t ks ≡ Some q → (t q ≡ true) × (list_any (same q) ks ≡ true))
        → (t q ≡ true) × (list_any (same q) (k ∷ ks) ≡ true)
    by true e i rest =
        let j : k ≡ q = cc in (
          ap t (sym j) ∙ e,
          ap (λ x. same q x || list_any (same q) ks) j ∙ ap (λ b. b || list_any (same q) ks) (laws.refl q),
        )
    by false e i rest = ((rest i).0, either (same q k) (list_any (same q) ks) (rest i).1)

-- where nothing is found nothing passes
none-passes : (t : Bytes → Bool) (ks : List Bytes) (q : Bytes) → list.find t ks ≡ None
    → list_any (same q) ks ≡ true → t q ≡ false
none-passes t [] q h m = absurd (none m)
  where
    none : false ≡ true → ⊥
    none k = cc
none-passes t (k ∷ ks) q h m = by (t k) refl h (none-passes t ks q)
  where
    here : (b : Bool) → same q k ≡ b → (b || list_any (same q) ks) ≡ true → t k ≡ false
        → (list_any (same q) ks ≡ true → t q ≡ false) → t q ≡ false
    here true j n e rest = ap t (same-is q k j) ∙ e
    here false j n e rest = rest n

    by : (b : Bool) → t k ≡ b → cond b (Some k) (list.find t ks) ≡ None
        → (list.find t ks ≡ None → list_any (same q) ks ≡ true → t q ≡ false) → t q ≡ false
    by true e i rest = absurd (some i)
      where
        some : Some k ≡ None → ⊥
        some j = cc
    by false e i rest = here (same q k) refl m e (rest i)

-- ---- the key of the least last use

module _ (used : List Bytes) (e : Vec ℕ × Entry) (fs : Entries) (changes most : ℕ) (h : Falls used (e ∷ fs)) where
  abbrev cache : Cache
  cache = cache_of used (e ∷ fs) changes most

  abbrev keys : List Bytes
  keys = map.keys cache.entries

  -- a key is there where it is found
  there : (q : Bytes) → list_any (same q) keys ≡ is_some (lookup (is_at q) (e ∷ fs))
  there q = sym (contains_key-keys cache.entries q) ∙ has-table used (e ∷ fs) q

  -- its last use
  last-of : (q : Bytes) → is_some (lookup (is_at q) (e ∷ fs)) ≡ true → last_use cache q ≡ last_use_in used q
  last-of q k = ap (λ (o : Option CacheItem). option_map_or (λ x. x.last_use) o 0) (get-table used (e ∷ fs) q)
      ∙ by (lookup (is_at q) (e ∷ fs)) k
    where
      by : (o : Option Entry) → is_some o ≡ true
          → option_map_or (λ x. x.last_use) (option_map (item_of (last_use_in used q)) o) 0
          ≡ last_use_in used q
      by None j = absurd (none j)
        where
          none : false ≡ true → ⊥
          none i = cc
      by (Some x) j = refl

  abbrev last : Bytes
  last = oldest e fs

  last-is : last_use cache last ≡ last_use_in used last
  last-is = last-of last (oldest-found e fs)

  -- no key was used before the last one
  oldest-least : is_least_used cache last ≡ true
  oldest-least = all-passes (λ k. nat_le (last_use cache last) (last_use cache k)) keys (λ k m.
      let f = sym (there k) ∙ m in
      let a = last-of k f in
      let b = last-is in
      le-leb (last_use cache last) (last_use cache k) (elim (later used e fs k h f) [
        | inl i ↦ let j = ap (last_use cache) i in omega (arith, j)
        | inr l ↦ omega (arith, a, b, l)
      ]))

  -- and any other key was used after it
  least-oldest : (q : Bytes) → is_least_used cache q ≡ true → list_any (same q) keys ≡ true → q ≡ last
  least-oldest q p m =
      let f = sym (there q) ∙ m in
      let n = leb-true (last_use cache q) (last_use cache last)
      (passes-at (λ k. nat_le (last_use cache q) (last_use cache k)) keys last p
      (there last ∙ oldest-found e fs)) in
      let a = last-of q f in
      let b = last-is in
      elim (later used e fs q h f) [
        | inl i ↦ i
        | inr l ↦ absurd (omega (arith, n, a, b, l))
      ]

  -- the key of the least last use is the last one's
  pub least-is : least_used cache ≡ Some last
  least-is = by (least_used cache) refl
    where
      by : (o : Option Bytes) → least_used cache ≡ o → o ≡ Some last
      by None i = absurd (both (none-passes (is_least_used cache) keys last i (there last ∙ oldest-found e fs))
          oldest-least)
        where
          both : is_least_used cache last ≡ false → is_least_used cache last ≡ true → ⊥
          both a b = cc
      by (Some q) i =
          let f = found-passes (is_least_used cache) keys q i in
          ap (λ k. Some k) (least-oldest q f.0 f.1)
