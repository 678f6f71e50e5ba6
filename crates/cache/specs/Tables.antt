-- Entries as the definitions see them: the order of entries, and the keys that were used, tell the last uses.
use Rattle.std.specs.Prelude.{ℕ, ◌+◌, ◌≤◌, List, [], ◌∷◌, map, length, refl, if◌then◌else◌}
use Rattle.std.specs.Global.{Vec}
use Rattle.std.specs.Map.{keys_of}
use Rattle.std.specs.List.Sorted.{IsStrictlySortedBy}
use Rattle.std.specs.Ordering.{nat_cmp, eq_by_cmp}
use Rattle.std.specs.FinMap.{FinMap, from_entries, code}
use Rattle.std.specs.Coded.{Coded, code_by, coded×, coded_ℕ, coded_list}
use Rattle.ids.specs.Sizes.{IsRoom}
use Rattle.definitions.specs.Bytes.{Bytes}
use Rattle.definitions.specs.Cache.{key_cmp}
use Rattle.definitions.specs.Cache as definitions
use Rattle.cache.specs.declared.entry.Entry.{Entry}

-- keys with what stands under them, the key that was used last first
abbrev pub Entries : Type 0
Entries = List (Vec ℕ × Entry)

-- how many keys were used
abbrev pub count_of : List Bytes → ℕ
count_of [] = 0
count_of (key ∷ earlier) = count_of earlier + 1

-- the count of uses at the last one of a key, of the used keys, newest first; 0 where it wasn't used
abbrev pub last_use_in : List Bytes → Bytes → ℕ
last_use_in [] key = 0
last_use_in (k ∷ earlier) key =
    if eq_by_cmp key_cmp key k then count_of earlier + 1 else last_use_in earlier key

-- what stands under a key that was used then for the last time
abbrev pub item_of : ℕ → Entry → definitions.CacheItem
item_of n e = record { flags = e.flags; stored = e.stored.items; cas_unique = e.cas_unique; last_use = n }

-- keys with what stands under them, after these uses
abbrev pub pairs_of : List Bytes → Entries → List (Bytes × definitions.CacheItem)
pairs_of used es = map (λ e. (e.0.items, item_of (last_use_in used e.0.items) e.1)) es

-- the entries by their keys
abbrev pub table_of : List Bytes → Entries → FinMap key_cmp definitions.CacheItem
table_of used es = from_entries (pairs_of used es)

-- the cache of these entries, after these uses and so many changes, with room for so many keys
abbrev pub cache_of : List Bytes → Entries → ℕ → ℕ → definitions.Cache
cache_of used es changes most_keys = record {
  entries = table_of used es;
  changes = changes;
  uses = count_of used;
  most_keys = most_keys;
}

-- the last uses of the keys fall
abbrev pub IsInOrder : List Bytes → Entries → Type 0
IsInOrder used es = IsStrictlySortedBy
    (λ x y. nat_cmp (last_use_in used y.items) (last_use_in used x.items)) (keys_of es)

-- they do, and there is room for the entries
abbrev pub IsKept : List Bytes → Entries → ℕ → Type 0
IsKept used es most_keys = IsInOrder used es × (length es ≤ most_keys) × (IsRoom most_keys)

-- a table is stored as its entries
abbrev pub table_code : Coded (FinMap key_cmp definitions.CacheItem)
table_code = code (coded_list coded_ℕ)
    (code_by (ℕ × (Bytes × (ℕ × ℕ))) (coded× coded_ℕ (coded× (coded_list coded_ℕ) (coded× coded_ℕ coded_ℕ)))
    (λ e. (e.flags, (e.stored, (e.cas_unique, e.last_use))))
    (λ p. record { flags = p.0; stored = p.1.0; cas_unique = p.1.1.0; last_use = p.1.1.1 })
    (λ _. refl))

-- a cache is stored as its parts
abbrev pub cache_code : Coded definitions.Cache
cache_code = code_by (FinMap key_cmp definitions.CacheItem × (ℕ × (ℕ × ℕ)))
    (coded× table_code (coded× coded_ℕ (coded× coded_ℕ coded_ℕ)))
    (λ c. (c.entries, (c.changes, (c.uses, c.most_keys))))
    (λ p. record { entries = p.0; changes = p.1.0; uses = p.1.1.0; most_keys = p.1.1.1 })
    (λ _. refl)
