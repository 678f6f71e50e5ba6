-- What a table has under a key, after uses and edits of its entries.
use Rattle.std.proofs.Common.{◌≡◌, ℕ, ◌+◌, Bool, true, false, cond, List, [], ◌∷◌, refl, sym, ap}
use Rattle.std.proofs.Common.{◌∙◌, Option, Some, None, is_some, nat_eq}
use Rattle.std.specs.Global.{Vec}
use Rattle.std.specs.Map.{keys_of, lookup, lookup_entry, remove_entry}
use Rattle.std.specs.Option.{option_map, option_map_or, option_copied}
use Rattle.std.specs.Borrow.{Bor}
use Rattle.std.specs.List.{IsDistinct}
use Rattle.std.specs.Ordering.{eq_by_cmp}
use Rattle.std.specs.Cmp.{IsEquivalence, eq_by_cmp_equiv}
use Rattle.std.specs.Cmp.Lexicographic.{nat_list_cmp_total, pointwise, texts_ties, same_text}
use Rattle.std.specs.FinMap as map
use Rattle.std.specs.FinMap.{FinMap, find, same_map, get-from_entries, get-insert, get-remove}
use Rattle.std.specs.FinMap.{nat_cmp-IsAntisymmetric, slice_cmp-IsAntisymmetric}
use Rattle.std.proofs.lemmas.Bool.{cond-true, cond-false}
use Rattle.std.proofs.lemmas.Map.{lookup-remove_entry}
use Rattle.definitions.specs.Bytes.{Bytes}
use Rattle.definitions.specs.Cache.{CacheItem, key_cmp, last_use, has}
use Rattle.definitions.specs.Cache as definitions
use Rattle.cache.specs.declared.entry.Entry.{Entry}
use Rattle.cache.specs.Tables.{Entries, count_of, last_use_in, item_of, pairs_of, table_of, cache_of}

-- as entries are looked up
abbrev pub is_at : Bytes → Vec ℕ → Bool
is_at q k = pointwise nat_eq q k.items

-- as tables tell keys apart
abbrev pub same : Bytes → Bytes → Bool
same = eq_by_cmp key_cmp

-- keys that tie are alike
pub laws : IsEquivalence same
laws = eq_by_cmp_equiv nat_list_cmp_total

-- a key ties with itself alone
pub same-is : (q k : Bytes) → same q k ≡ true → q ≡ k
same-is q k h = same_text q k (sym (texts_ties q k ∙ h))

-- tables that answer alike are one
pub same_table : (s t : FinMap key_cmp CacheItem) → ((q : Bytes) → map.get s q ≡ map.get t q) → s ≡ t
same_table = same_map nat_list_cmp_total (slice_cmp-IsAntisymmetric nat_cmp-IsAntisymmetric)

-- ---- looking up

-- what the pairs have is what the entries have
found : (used : List Bytes) (es : Entries) (q : Bytes)
    → find key_cmp q (pairs_of used es)
    ≡ option_map (item_of (last_use_in used q)) (lookup (is_at q) es)
found used [] q = refl
found used (e ∷ es) q = by (is_at q e.0) refl (found used es q)
  where
    by : (b : Bool) → is_at q e.0 ≡ b
        → find key_cmp q (pairs_of used es) ≡ option_map (item_of (last_use_in used q)) (lookup (is_at q) es)
        → find key_cmp q (pairs_of used (e ∷ es))
        ≡ option_map (item_of (last_use_in used q)) (cond b (Some e.1) (lookup (is_at q) es))
    by true h rest =
        cond-true _ _ _ (sym (texts_ties q e.0.items) ∙ h)
        ∙ ap (λ k. Some (item_of (last_use_in used k) e.1)) (sym (same_text q e.0.items (sym h)))
    by false h rest = cond-false _ _ _ (sym (texts_ties q e.0.items) ∙ h) ∙ rest

-- what a table has under a key is what its entries have
pub get-table : (used : List Bytes) (es : Entries) (q : Bytes)
    → map.get (table_of used es) q ≡ option_map (item_of (last_use_in used q)) (lookup (is_at q) es)
get-table used es q = get-from_entries nat_list_cmp_total (pairs_of used es) q ∙ found used es q

-- seeing keeps what is there
pub is_some-seen : {X Y : Type 0} (f : X → Y) (o : Option X) → is_some o ≡ is_some (option_map f o)
is_some-seen f None = refl
is_some-seen f (Some e) = refl

-- a key is there where an entry is
pub has-table : (used : List Bytes) (es : Entries) (q : Bytes)
    → map.contains_key (table_of used es) q ≡ is_some (lookup (is_at q) es)
has-table used es q = ap is_some (get-table used es q) ∙ sym (is_some-seen _ _)

-- what is lent of an entry is what stands under its key, with the last use
pub lent : (used : List Bytes) (es : Entries) (changes most : ℕ) (q : Bytes) (o : Option (Bor Entry))
    → option_copied o ≡ lookup (is_at q) es
    → option_map (λ e. item_of (last_use (cache_of used es changes most) q) e.now) o
    ≡ definitions.find (cache_of used es changes most) q
lent used es changes most q None h =
    sym (get-table used es q ∙ ap (option_map (item_of (last_use_in used q))) (sym h))
lent used es changes most q (Some e) h =
    let g = get-table used es q ∙ ap (option_map (item_of (last_use_in used q))) (sym h) in
    ap (λ (x : Option CacheItem). Some (item_of (option_map_or (λ i. i.last_use) x 0) e.now)) g ∙ sym g

-- the value of the entry that is found
pub lookup-entry : (t : Vec ℕ → Bool) (es : Entries)
    → lookup t es ≡ option_map (λ e. e.1) (lookup_entry t es)
lookup-entry t [] = refl
lookup-entry t (e ∷ es) = by (t e.0) (lookup-entry t es)
  where
    by : (b : Bool) → lookup t es ≡ option_map (λ x. x.1) (lookup_entry t es)
        → cond b (Some e.1) (lookup t es) ≡ option_map (λ x. x.1) (cond b (Some e) (lookup_entry t es))
    by true rest = refl
    by false rest = rest

-- the entry that is found has the key
pub entry-key : (q : Bytes) (es : Entries) (e : Vec ℕ × Entry) → lookup_entry (is_at q) es ≡ Some e
    → e.0.items ≡ q
entry-key q [] e h = absurd (none h)
  where
    none : None ≡ Some e → ⊥
    none k = cc
entry-key q (f ∷ es) e h = by (is_at q f.0) refl h (entry-key q es e)
  where
    by : (b : Bool) → is_at q f.0 ≡ b → cond b (Some f) (lookup_entry (is_at q) es) ≡ Some e
        → (lookup_entry (is_at q) es ≡ Some e → e.0.items ≡ q) → e.0.items ≡ q
    by true t k rest =
        let i : f ≡ e = cc in
        ap (λ (x : Vec ℕ × Entry). x.0.items) (sym i) ∙ sym (same_text q f.0.items (sym t))
    by false t k rest = rest k

-- ---- a use

-- the last use of the key that is used
pub last-own : (used : List Bytes) (q : Bytes) → last_use_in (q ∷ used) q ≡ count_of used + 1
last-own used q = cond-true _ _ _ (laws.refl q)

-- and of the others
pub last-other : (used : List Bytes) (q r : Bytes) → same r q ≡ false
    → last_use_in (q ∷ used) r ≡ last_use_in used r
last-other used q r h = cond-false _ _ _ h

-- an entry that goes first, under a key that is being used
pub table-front : (used : List Bytes) (k : Vec ℕ) (v : Entry) (es : Entries)
    → table_of (k.items ∷ used) ((k, v) ∷ es)
    ≡ map.insert (table_of used es) k.items (item_of (count_of used + 1) v)
table-front used k v es = same_table _ _ (λ r.
    get-table (k.items ∷ used) ((k, v) ∷ es) r
    ∙ by r (same r k.items) refl
    ∙ sym (get-insert nat_list_cmp_total (table_of used es) k.items (item_of (count_of used + 1) v) r))
  where
    by : (r : Bytes) (b : Bool) → same r k.items ≡ b
        → option_map (item_of (last_use_in (k.items ∷ used) r)) (lookup (is_at r) ((k, v) ∷ es))
        ≡ cond b (Some (item_of (count_of used + 1) v)) (map.get (table_of used es) r)
    by r true h =
        ap (option_map (item_of (last_use_in (k.items ∷ used) r)))
        (cond-true _ (Some v) (lookup (is_at r) es) (texts_ties r k.items ∙ h))
        ∙ ap (λ n. Some (item_of n v)) (cond-true _ (count_of used + 1) (last_use_in used r) h)
    by r false h =
        ap (option_map (item_of (last_use_in (k.items ∷ used) r)))
        (cond-false _ (Some v) (lookup (is_at r) es) (texts_ties r k.items ∙ h))
        ∙ ap (λ n. option_map (item_of n) (lookup (is_at r) es)) (last-other used k.items r h)
        ∙ sym (get-table used es r)

-- ---- an entry less

-- the pair of an entry
abbrev pair : List Bytes → Vec ℕ × Entry → Bytes × CacheItem
pair used x = (x.0.items, item_of (last_use_in used x.0.items) x.1)

-- the pairs of the entries with one less
removed : (used : List Bytes) (q : Bytes) (es : Entries)
    → pairs_of used (remove_entry (is_at q) es) ≡ remove_entry (same q) (pairs_of used es)
removed used q [] = refl
removed used q (e ∷ es) = by (is_at q e.0) refl (removed used q es)
  where
    by : (b : Bool) → is_at q e.0 ≡ b
        → pairs_of used (remove_entry (is_at q) es) ≡ remove_entry (same q) (pairs_of used es)
        → pairs_of used (cond b es (e ∷ remove_entry (is_at q) es))
        ≡ cond (same q e.0.items) (pairs_of used es) (pair used e ∷ remove_entry (same q) (pairs_of used es))
    by true h rest = sym (cond-true _ _ _ (sym (texts_ties q e.0.items) ∙ h))
    by false h rest =
        ap (λ (ps : List (Bytes × CacheItem)). pair used e ∷ ps) rest
        ∙ sym (cond-false _ _ _ (sym (texts_ties q e.0.items) ∙ h))

-- two words for one search
find-lookup : (ps : List (Bytes × CacheItem)) (q : Bytes) → find key_cmp q ps ≡ lookup (same q) ps
find-lookup [] q = refl
find-lookup (e ∷ ps) q = ap (cond (same q e.0) (Some e.1)) (find-lookup ps q)

-- what the table of pairs has under a key
get-pairs : (ps : List (Bytes × CacheItem)) (q : Bytes)
    → map.get (map.from_entries {R = key_cmp} ps) q ≡ lookup (same q) ps
get-pairs ps q = get-from_entries nat_list_cmp_total ps q ∙ find-lookup ps q

-- an entry that is taken out is removed, where keys are distinct
pub table-remove : (used : List Bytes) (q : Bytes) (es : Entries)
    → IsDistinct same (keys_of (pairs_of used es))
    → table_of used (remove_entry (is_at q) es) ≡ map.remove (table_of used es) q
table-remove used q es d = same_table _ _ (λ r.
    get-pairs _ r ∙ ap (lookup (same r)) (removed used q es)
    ∙ lookup-remove_entry laws (same q) (λ x y t. laws.congr q x y t) r (pairs_of used es) d
    ∙ ap (λ b. cond b None (lookup (same r) (pairs_of used es))) (laws.symm q r)
    ∙ sym (get-remove nat_list_cmp_total (table_of used es) q r
    ∙ ap (cond (same r q) None) (get-pairs (pairs_of used es) r)))

-- to remove a key first is nothing where it is inserted
pub insert-remove : (t : FinMap key_cmp CacheItem) (q : Bytes) (x : CacheItem)
    → map.insert (map.remove t q) q x ≡ map.insert t q x
insert-remove t q x = same_table _ _ (λ r.
    get-insert nat_list_cmp_total (map.remove t q) q x r
    ∙ ap (cond (same r q) (Some x)) (get-remove nat_list_cmp_total t q r)
    ∙ twice (same r q) (map.get t r)
    ∙ sym (get-insert nat_list_cmp_total t q x r))
  where
    twice : (b : Bool) (o : Option CacheItem) → cond b (Some x) (cond b None o) ≡ cond b (Some x) o
    twice true o = refl
    twice false o = refl
