-- The sequential cache: what each request does to it and what it replies (protocol.txt). A full cache makes room
-- by the key that was not used for the longest time.
use Rattle.ids.specs.declared.limits.TheConstants.{MOST_DATA}
use Rattle.std.specs.Prelude.{ℕ, ◌+◌, ◌-◌, ◌%◌, ◌^◌, Bool, true, false, ◌||◌, ◌&&◌, List, ◌++◌, length, fold}
use Rattle.std.specs.Prelude.{Option, Some, None, option_map, decimal, nat_lt, nat_le, ◌==◌, bytes_eq}
use Rattle.std.specs.Prelude.{if◌then◌else◌, filter_map}
use Rattle.std.specs.List.{list_all}
use Rattle.std.specs.List as list
use Rattle.std.specs.Option.{option_map_or}
use Rattle.std.specs.Str.Parse.{digits_value}
use Rattle.std.specs.Ordering.{nat_cmp}
use Rattle.std.specs.declared.cmp.Ordering.{Ordering}
use Rattle.std.specs.Cmp.Lexicographic.{slice_cmp}
use Rattle.std.specs.FinMap.{FinMap}
use Rattle.std.specs.FinMap as map
use Rattle.definitions.specs.Requests.{Verb, set, add, replace, append, prepend, Asked, store, cas, get}
use Rattle.definitions.specs.Requests.{gets, delete, incr, decr}
use Rattle.definitions.specs.Canonical.{request_of}
use Rattle.definitions.specs.Replies.{Value, Reply}
use Rattle.definitions.specs.Replies as reply
use Rattle.definitions.specs.Bytes.{Bytes}

-- what stands under a key (protocol.txt: flags, data block, cas unique), and the count of uses at its last use
pub record CacheItem : Type 0 where
  pub flags : ℕ
  pub stored : Bytes
  pub cas_unique : ℕ
  pub last_use : ℕ

-- keys in the order of their bytes
abbrev pub key_cmp : Bytes → Bytes → Ordering
key_cmp = slice_cmp nat_cmp

-- what stands under each key, how often data was given, how often keys were used, and for how many keys there is
-- room
pub record Cache : Type 0 where
  pub entries : FinMap key_cmp CacheItem
  pub changes : ℕ
  pub uses : ℕ
  pub most_keys : ℕ

-- the cache at the start
abbrev pub empty_cache : ℕ → Cache
empty_cache most_keys = record { entries = map.empty; changes = 0; uses = 0; most_keys = most_keys }

-- the greatest count of changes
abbrev pub most_changes : ℕ
most_changes = 2 ^ 64 - 1

-- what stands under a key
abbrev pub find : Cache → Bytes → Option CacheItem
find cache key = map.get cache.entries key

-- whether something stands under a key
abbrev pub has : Cache → Bytes → Bool
has cache key = map.contains_key cache.entries key

-- ---- uses, and who makes room

-- A use of a key that is there: one more is counted, and it is the key's last one.
abbrev pub used : Cache → Bytes → Cache
used cache key = option_map_or
    (λ e. record cache {
      entries = map.insert cache.entries key (record e { last_use = cache.uses + 1 });
      uses = cache.uses + 1;
    })
    (find cache key) cache

-- the last use of a key; 0 where nothing stands under it
abbrev pub last_use : Cache → Bytes → ℕ
last_use cache key = option_map_or (λ e. e.last_use) (find cache key) 0

-- no key was used longer ago
abbrev pub is_least_used : Cache → Bytes → Bool
is_least_used cache key = list_all (λ k. nat_le (last_use cache key) (last_use cache k)) (map.keys cache.entries)

-- the key of the least last use
abbrev pub least_used : Cache → Option Bytes
least_used cache = list.find (is_least_used cache) (map.keys cache.entries)

-- What stays beside a key that is given data: all, but where the key is a new one and there is no room for it
-- the key of the least last use goes.
abbrev pub beside : Cache → Bytes → FinMap key_cmp CacheItem
beside cache key =
    if has cache key || nat_lt (map.len cache.entries) cache.most_keys then cache.entries
    else option_map_or (map.remove cache.entries) (least_used cache) cache.entries

-- ---- changes

-- what is left, and what is replied
abbrev pub Outcome : Type 0
Outcome = Cache × Reply

-- A change: the key has this data from now on, and a cas unique of its own. It is a use of the key. Where all
-- changes are counted nothing is done.
abbrev pub change : Cache → Bytes → ℕ → Bytes → Reply → Outcome
change cache key flags stored told =
    if cache.changes == most_changes then (cache, reply.out_of_memory)
    else (
      record cache {
        entries = map.insert (beside cache key) key (record {
          flags = flags;
          stored = stored;
          cas_unique = cache.changes + 1;
          last_use = cache.uses + 1;
        });
        changes = cache.changes + 1;
        uses = cache.uses + 1;
      },
      told,
    )

-- the number that the data writes, where it is a decimal below 2 ^ 64
abbrev pub number_in : Bytes → Option ℕ
number_in text =
    let n = digits_value 10 text in
    if nat_lt n (2 ^ 64) && bytes_eq text (decimal n) then Some n else None

-- with the entry of the key, or another outcome where there is none
abbrev pub if_present : Cache → Bytes → Outcome → (CacheItem → Outcome) → Outcome
if_present cache key absent present = option_map_or present (find cache key) absent

-- the storage commands (protocol.txt, "Storage commands")
abbrev pub store_it : Cache → Verb → Bytes → ℕ → Bytes → Outcome
store_it cache set key flags stored = change cache key flags stored reply.stored
store_it cache add key flags stored =
    if has cache key then (cache, reply.not_stored) else change cache key flags stored reply.stored
store_it cache replace key flags stored =
    if has cache key then change cache key flags stored reply.stored else (cache, reply.not_stored)
store_it cache append key flags stored = if_present cache key (cache, reply.not_stored) (λ e.
    if nat_le (length (e.stored ++ stored)) MOST_DATA
    then change cache key e.flags (e.stored ++ stored) reply.stored
    else (cache, reply.too_large))
store_it cache prepend key flags stored = if_present cache key (cache, reply.not_stored) (λ e.
    if nat_le (length (stored ++ e.stored)) MOST_DATA
    then change cache key e.flags (stored ++ e.stored) reply.stored
    else (cache, reply.too_large))

-- a number takes another one's place
abbrev pub count_it : Cache → Bytes → (ℕ → ℕ) → Outcome
count_it cache key f = if_present cache key (cache, reply.not_found) (λ e.
    option_map_or (λ n. change cache key e.flags (decimal (f n)) (reply.number (f n))) (number_in e.stored)
    (cache, reply.non_numeric))

-- what an asked key has
abbrev pub value_of : Cache → Bytes → Option Value
value_of cache key = option_map
    (λ e. record { key = key; flags = e.flags; stored = e.stored; cas_unique = e.cas_unique })
    (find cache key)

-- what the asked keys have that are present, in the order asked
abbrev pub values_of : Cache → List Bytes → List Value
values_of cache keys = filter_map (λ key. value_of cache key) keys

-- what a request does
abbrev pub apply : Cache → Asked → Outcome
apply cache (store verb key flags stored) = store_it cache verb key flags stored
apply cache (cas key flags stored cas_unique) = if_present cache key (cache, reply.not_found) (λ e.
    if e.cas_unique == cas_unique then change cache key flags stored reply.stored else (cache, reply.exists))
apply cache (incr key value) = count_it cache key (λ n. (n + value) % 2 ^ 64)
apply cache (decr key value) = count_it cache key (λ n. n - value)
apply cache (delete key) =
    if has cache key
    then (record cache { entries = map.remove cache.entries key }, reply.deleted)
    else (cache, reply.not_found)
apply cache (get keys) = (fold used cache keys, reply.values (values_of cache keys) false)
apply cache (gets keys) = (fold used cache keys, reply.values (values_of cache keys) true)

-- what a payload does: its request, where it is the canonical text of one, and else nothing
unfoldable pub apply_payload : Cache → Bytes → Outcome
apply_payload cache payload =
    option_map_or (apply cache) (request_of payload) (cache, reply.no_request)
