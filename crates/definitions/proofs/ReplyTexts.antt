-- How long the text of a reply can be: what a cache holds stays within the limits of requests.
use Rattle.ids.specs.declared.limits.TheConstants.{MOST_DATA, MOST_TEXT}
use Rattle.std.proofs.Common.{ℕ, ◌≡◌, ◌+◌, ◌*◌, ◌^◌, ◌%◌, ◌-◌, ◌<◌, ◌≤◌, ◌&&◌, ◌||◌, ◌==◌, Bool, true}
use Rattle.std.proofs.Common.{false, List, [], ◌∷◌, ◌++◌, length, cond, refl, sym, subst, ◌∙◌, arith, inl}
use Rattle.std.proofs.Common.{inr, Option, Some, None, nat_lt, nat_le, length-append, bytes_eq, decimal}
use Rattle.std.proofs.Common.{codes, fold}
use Rattle.std.specs.Bool.{⊤}
use Rattle.std.specs.Ordering.{eq_by_cmp}
use Rattle.std.specs.List.{AllByRecursion, flat_map, cons_option}
use Rattle.std.specs.Option.{option_map, option_map_or}
use Rattle.std.specs.FinMap as map
use Rattle.std.specs.FinMap.{FinMap}
use Rattle.std.specs.Cmp.Lexicographic.{nat_list_cmp_total}
use Rattle.std.specs.Str.Parse.{digits_value}
use Rattle.std.proofs.lemmas.Bool.{and_parts, cond_both, ltb-true, leb-true, eqb-false}
use Rattle.std.proofs.lemmas.Fmt.{length-decimal-le}
use Rattle.definitions.specs.Lists.{Among}
use Rattle.definitions.specs.Bytes.{Bytes}
use Rattle.definitions.specs.Requests.{Verb, set, add, replace, append, prepend, Asked, store, cas, get}
use Rattle.definitions.specs.Requests.{gets, delete, incr, decr, IsKey, IsRequest}
use Rattle.definitions.specs.Canonical.{request_of}
use Rattle.definitions.specs.Replies.{Value, Reply, value_text, reply_text}
use Rattle.definitions.specs.Replies as reply
use Rattle.definitions.specs.Cache.{CacheItem, Cache, key_cmp, most_changes, find, has, Outcome, change}
use Rattle.definitions.specs.Cache.{least_used, beside, used, number_in, if_present, store_it, count_it}
use Rattle.definitions.specs.Cache.{values_of, apply, apply_payload}
use Rattle.definitions.specs.Histories.{History, Answer, answers, cache_after, is_fresh}
use Rattle.definitions.proofs.Certificates.{all-implied}
use Rattle.definitions.proofs.RequestTexts.{request_of_some}

-- ---- what a request may say

-- the limits of the request's data and keys
abbrev pub IsWithin : Asked → Type 0
IsWithin (store verb key flags stored) = (flags < 2 ^ 32) × (length stored ≤ MOST_DATA)
IsWithin (cas key flags stored cas_unique) = (flags < 2 ^ 32) × (length stored ≤ MOST_DATA)
IsWithin (get keys) = (length keys ≤ 16) × AllByRecursion (λ key. length key ≤ 250) keys
IsWithin (gets keys) = (length keys ≤ 16) × AllByRecursion (λ key. length key ≤ 250) keys
IsWithin (delete key) = ⊤
IsWithin (incr key value) = ⊤
IsWithin (decr key value) = ⊤

-- a request is within its limits
request-within : (r : Asked) → IsRequest r false → IsWithin r
request-within (store verb key flags stored) h = (h.0.1, h.2)
request-within (cas key flags stored cas_unique) h = (h.0.1, h.2)
request-within (get keys) h = (h.0.1, all-implied IsKey (λ key. length key ≤ 250) (λ key k. k.1) keys h.0.2)
request-within (gets keys) h = (h.0.1, all-implied IsKey (λ key. length key ≤ 250) (λ key k. k.1) keys h.0.2)
request-within (delete key) h = tt
request-within (incr key value) h = tt
request-within (decr key value) h = tt

-- ---- what a cache holds

-- an entry within the limits of a request
pub record IsEntryWithin (e : CacheItem) : Type 0 where
  pub flags : e.flags < 2 ^ 32
  pub stored : length e.stored ≤ MOST_DATA
  pub cas_unique : e.cas_unique < 2 ^ 64

-- entries that are
abbrev pub AreWithin : FinMap key_cmp CacheItem → Type 0
AreWithin entries = (key : Bytes) (e : CacheItem) → map.get entries key ≡ Some e → IsEntryWithin e

-- a cache all of whose entries are
pub record IsCacheWithin (cache : Cache) : Type 0 where
  pub entries : AreWithin cache.entries
  pub changes : cache.changes < 2 ^ 64

-- a text that a reply may have
abbrev FitsReply : Reply → Type 0
FitsReply r = length (reply_text r) ≤ MOST_TEXT

-- what is left and replied keeps the limits
pub record IsOutcomeWithin (o : Outcome) : Type 0 where
  pub cache : IsCacheWithin o.0
  pub text : FitsReply o.1

-- what a storage command replies
stored-fits : FitsReply reply.stored
stored-fits = omega arith

-- what incr and decr reply
number-fits : (n : ℕ) → n < 2 ^ 64 → FitsReply (reply.number n)
number-fits n l =
    let k =
    length-decimal-le 20 n (omega arith) (omega (arith, l)) l in let a =
    length-append (decimal n) (13 ∷ 10 ∷ []) in omega (arith, k, a)

-- an entry more
insert-within : (entries : FinMap key_cmp CacheItem) (key : Bytes) (e : CacheItem) → AreWithin entries
    → IsEntryWithin e → AreWithin (map.insert entries key e)
insert-within entries key e h k q x f =
    by (eq_by_cmp key_cmp q key) (sym (map.get-insert nat_list_cmp_total entries key e q) ∙ f)
  where
    by : (t : Bool) → cond t (Some e) (map.get entries q) ≡ Some x → IsEntryWithin x
    by true f = let i : e ≡ x = cc in subst IsEntryWithin i k
    by false f = h q x f

-- an entry less
remove-within : (entries : FinMap key_cmp CacheItem) (key : Bytes) → AreWithin entries
    → AreWithin (map.remove entries key)
remove-within entries key h q x f =
    by (eq_by_cmp key_cmp q key) (sym (map.get-remove nat_list_cmp_total entries key q) ∙ f)
  where
    by : (t : Bool) → cond t None (map.get entries q) ≡ Some x → IsEntryWithin x
    by true f = absurd (none f)
      where
        none : None ≡ Some x → ⊥
        none j = cc
    by false f = h q x f

-- what stays beside a key
beside-within : (cache : Cache) (key : Bytes) → IsCacheWithin cache → AreWithin (beside cache key)
beside-within cache key h =
    cond_both (has cache key || nat_lt (map.len cache.entries) cache.most_keys) _ _ AreWithin
    (λ e. h.entries) (λ e. by (least_used cache))
  where
    by : (o : Option Bytes) → AreWithin (option_map_or (map.remove cache.entries) o cache.entries)
    by None = h.entries
    by (Some key) = remove-within cache.entries key h.entries

-- a use of a key
used-within : (cache : Cache) (key : Bytes) → IsCacheWithin cache → IsCacheWithin (used cache key)
used-within cache key h = by (find cache key) refl
  where
    by : (o : Option CacheItem) → find cache key ≡ o → IsCacheWithin (option_map_or
        (λ e. record cache {
          entries = map.insert cache.entries key (record e { last_use = cache.uses + 1 });
          uses = cache.uses + 1;
        }) o cache)
    by None f = h
    by (Some e) f =
        let k = h.entries key e f in
        record {
          entries = insert-within cache.entries key (record e { last_use = cache.uses + 1 }) h.entries
              (record { flags = k.flags; stored = k.stored; cas_unique = k.cas_unique });
          changes = h.changes;
        }

-- uses of some keys
all_used-within : (cache : Cache) (keys : List Bytes) → IsCacheWithin cache
    → IsCacheWithin (fold used cache keys)
all_used-within cache [] h = h
all_used-within cache (key ∷ keys) h = all_used-within (used cache key) keys (used-within cache key h)

-- a cache that stays, with a text that fits
stays-within : (cache : Cache) (r : Reply) → IsCacheWithin cache → FitsReply r → IsOutcomeWithin (cache, r)
stays-within cache r h k = record { cache = h; text = k }

-- a change within the limits
change-within : (cache : Cache) (key : Bytes) (flags : ℕ) (stored : Bytes) (told : Reply)
    → IsCacheWithin cache → flags < 2 ^ 32 → length stored ≤ MOST_DATA → FitsReply told
    → IsOutcomeWithin (change cache key flags stored told)
change-within cache key flags stored told h f l t =
    cond_both (cache.changes == most_changes) (cache, reply.out_of_memory) _ IsOutcomeWithin
    (λ e. stays-within cache reply.out_of_memory h (omega arith))
    (λ e. let n = eqb-false cache.changes most_changes e in let c = h.changes in
    let more : cache.changes + 1 < 2 ^ 64 = omega (arith, n, c) in
    record {
      cache = record {
        entries = insert-within (beside cache key) key (record {
          flags = flags;
          stored = stored;
          cas_unique = cache.changes + 1;
          last_use = cache.uses + 1;
        }) (beside-within cache key h) (record { flags = f; stored = l; cas_unique = more });
        changes = more;
      };
      text = t;
    })

-- what is done with an entry that is there
present-within : (cache : Cache) (key : Bytes) (absent : Outcome) (present : CacheItem → Outcome)
    → IsCacheWithin cache → IsOutcomeWithin absent
    → ((e : CacheItem) → IsEntryWithin e → IsOutcomeWithin (present e))
    → IsOutcomeWithin (if_present cache key absent present)
present-within cache key absent present h a p = by (find cache key) refl
  where
    by : (o : Option CacheItem) → find cache key ≡ o → IsOutcomeWithin (option_map_or present o absent)
    by None f = a
    by (Some e) f = p e (h.entries key e f)

-- ---- what a request does

-- a storage command keeps the limits
store-within : (cache : Cache) (verb : Verb) (key : Bytes) (flags : ℕ) (stored : Bytes)
    → IsCacheWithin cache → flags < 2 ^ 32 → length stored ≤ MOST_DATA
    → IsOutcomeWithin (store_it cache verb key flags stored)
store-within cache set key flags stored h f l =
    change-within cache key flags stored reply.stored h f l stored-fits
store-within cache add key flags stored h f l =
    cond_both (has cache key) _ _ IsOutcomeWithin
    (λ e. stays-within cache reply.not_stored h (omega arith))
    (λ e. change-within cache key flags stored reply.stored h f l stored-fits)
store-within cache replace key flags stored h f l =
    cond_both (has cache key) _ _ IsOutcomeWithin
    (λ e. change-within cache key flags stored reply.stored h f l stored-fits)
    (λ e. stays-within cache reply.not_stored h (omega arith))
store-within cache append key flags stored h f l =
    present-within cache key _ _ h (stays-within cache reply.not_stored h (omega arith)) (λ x k.
    cond_both (nat_le (length (x.stored ++ stored)) MOST_DATA) _ _ IsOutcomeWithin
    (λ e. change-within cache key x.flags (x.stored ++ stored) reply.stored h k.flags (leb-true _ _ e)
    stored-fits)
    (λ e. stays-within cache reply.too_large h (omega arith)))
store-within cache prepend key flags stored h f l =
    present-within cache key _ _ h (stays-within cache reply.not_stored h (omega arith)) (λ x k.
    cond_both (nat_le (length (stored ++ x.stored)) MOST_DATA) _ _ IsOutcomeWithin
    (λ e. change-within cache key x.flags (stored ++ x.stored) reply.stored h k.flags (leb-true _ _ e)
    stored-fits)
    (λ e. stays-within cache reply.too_large h (omega arith)))

-- the number that an entry writes is below 2 ^ 64
pub number_in-within : (text : Bytes) (n : ℕ) → number_in text ≡ Some n → n < 2 ^ 64
number_in-within text n =
    cond_both (nat_lt (digits_value 10 text) (2 ^ 64) && bytes_eq text (decimal (digits_value 10 text))) _ _
    (λ (o : Option ℕ). o ≡ Some n → n < 2 ^ 64)
    (λ t e. (let k : digits_value 10 text ≡ n =
    cc in let l = ltb-true (digits_value 10 text) (2 ^ 64) (and_parts _ _ t).0 in omega (arith, k, l)))
    (λ t e. absurd (none e))
  where
    none : None ≡ Some n → ⊥
    none j = cc

-- so does a count whose numbers stay below 2 ^ 64
count-within : (cache : Cache) (key : Bytes) (f : ℕ → ℕ) → IsCacheWithin cache
    → ((n : ℕ) → n < 2 ^ 64 → f n < 2 ^ 64) → IsOutcomeWithin (count_it cache key f)
count-within cache key f h small =
    present-within cache key _ _ h (stays-within cache reply.not_found h (omega arith))
    (λ e k. by e k (number_in e.stored) refl)
  where
    by : (e : CacheItem) → IsEntryWithin e → (o : Option ℕ) → number_in e.stored ≡ o
        → IsOutcomeWithin (option_map_or
        (λ n. change cache key e.flags (decimal (f n)) (reply.number (f n))) o (cache, reply.non_numeric))
    by e k None i = stays-within cache reply.non_numeric h (omega arith)
    by e k (Some n) i =
        let l = small n (number_in-within e.stored n i) in
        let d = length-decimal-le 20 (f n) (omega arith) (omega (arith, l)) l in
        change-within cache key e.flags (decimal (f n)) (reply.number (f n)) h k.flags (omega (arith, d))
        (number-fits (f n) l)

-- ---- values

-- what is told of a key within its limits
record IsValueWithin (v : Value) : Type 0 where
  key : length v.key ≤ 250
  flags : v.flags < 2 ^ 32
  stored : length v.stored ≤ MOST_DATA
  cas_unique : v.cas_unique < 2 ^ 64

-- the most bytes of one value
abbrev most_value : ℕ
most_value = 4393

-- a value has at most so many bytes
value-fits : (u : Bool) (v : Value) → IsValueWithin v → length (value_text u v) ≤ most_value
value-fits true v h =
    let k = h.key in
    let s = h.stored in
    let f = length-decimal-le 10 v.flags (omega arith) (let l = h.flags in omega (arith, l))
    (let l = h.flags in omega (arith, l)) in
    let n = length-decimal-le 4 (length v.stored) (omega arith) (omega (arith, s)) (omega (arith, s)) in
    let q = length-decimal-le 20 v.cas_unique (omega arith) (let l = h.cas_unique in omega (arith, l))
    h.cas_unique in
    simp length-append (omega (arith, k, s, f, n, q))
value-fits false v h =
    let k = h.key in
    let s = h.stored in
    let f = length-decimal-le 10 v.flags (omega arith) (let l = h.flags in omega (arith, l))
    (let l = h.flags in omega (arith, l)) in
    let n = length-decimal-le 4 (length v.stored) (omega arith) (omega (arith, s)) (omega (arith, s)) in
    simp length-append (omega (arith, k, s, f, n))

-- the values of some keys
values-fit : (u : Bool) (cache : Cache) (keys : List Bytes) → IsCacheWithin cache
    → AllByRecursion (λ key. length key ≤ 250) keys
    → length (flat_map (value_text u) (values_of cache keys)) ≤ most_value * length keys
values-fit u cache [] h k = omega arith
values-fit u cache (key ∷ keys) h k = by (values-fit u cache keys h k.1) (find cache key) refl
  where
    by : length (flat_map (value_text u) (values_of cache keys)) ≤ most_value * length keys
        → (o : Option CacheItem) → find cache key ≡ o
        → length (flat_map (value_text u) (cons_option (option_map
        (λ e. record { key = key; flags = e.flags; stored = e.stored; cas_unique = e.cas_unique }) o)
        (values_of cache keys))) ≤ most_value * length (key ∷ keys)
    by rest None f = omega (arith, rest)
    by rest (Some e) f =
        let x = h.entries key e f in
        let v : Value = record { key = key; flags = e.flags; stored = e.stored; cas_unique = e.cas_unique } in
        let l =
        value-fits u v (record { key = k.0; flags = x.flags; stored = x.stored; cas_unique = x.cas_unique })
        in
        let a = length-append (value_text u v) (flat_map (value_text u) (values_of cache keys)) in
        omega (arith, rest, l, a)

-- a retrieval of at most 16 keys
get-within : (u : Bool) (cache : Cache) (keys : List Bytes) → IsCacheWithin cache → length keys ≤ 16
    → AllByRecursion (λ key. length key ≤ 250) keys
    → IsOutcomeWithin (fold used cache keys, reply.values (values_of cache keys) u)
get-within u cache keys h n k =
    let l = values-fit u cache keys h k in
    let a = length-append (flat_map (value_text u) (values_of cache keys)) (codes "END" ++ 13 ∷ 10 ∷ []) in
    record { cache = all_used-within cache keys h; text = omega (arith, l, a, n) }

-- what a request within the limits does
apply-within : (cache : Cache) (r : Asked) → IsCacheWithin cache → IsWithin r
    → IsOutcomeWithin (apply cache r)
apply-within cache (store verb key flags stored) h w =
    store-within cache verb key flags stored h w.0 w.1
apply-within cache (cas key flags stored cas_unique) h w =
    present-within cache key _ _ h (stays-within cache reply.not_found h (omega arith)) (λ x k.
    cond_both (x.cas_unique == cas_unique) _ _ IsOutcomeWithin
    (λ e. change-within cache key flags stored reply.stored h w.0 w.1 stored-fits)
    (λ e. stays-within cache reply.exists h (omega arith)))
apply-within cache (incr key value) h w =
    count-within cache key (λ n. (n + value) % 2 ^ 64) h (λ n l. omega arith)
apply-within cache (decr key value) h w =
    count-within cache key (λ n. n - value) h (λ n l. omega (arith, l))
apply-within cache (delete key) h w =
    cond_both (has cache key) _ _ IsOutcomeWithin
    (λ e. record {
      cache = record { entries = remove-within cache.entries key h.entries; changes = h.changes };
      text = omega arith;
    })
    (λ e. stays-within cache reply.not_found h (omega arith))
apply-within cache (get keys) h w = get-within false cache keys h w.0 w.1
apply-within cache (gets keys) h w = get-within true cache keys h w.0 w.1

-- what a payload does
pub payload-within : (cache : Cache) (payload : Bytes) → IsCacheWithin cache
    → IsOutcomeWithin (apply_payload cache payload)
unfolding apply_payload
payload-within cache payload h = by (request_of payload) refl
  where
    by : (o : Option Asked) → request_of payload ≡ o
        → IsOutcomeWithin (option_map_or (apply cache) o (cache, reply.no_request))
    by None e = stays-within cache reply.no_request h (omega arith)
    by (Some r) e = apply-within cache r h (request-within r (request_of_some payload r e).0)

-- ---- histories

-- the cache after a history keeps the limits
pub cache_after-within : (most_keys : ℕ) (h : History) → IsCacheWithin (cache_after most_keys h)
unfolding cache_after
cache_after-within most_keys [] = record {
  entries = λ key e f. absurd (none e (sym (map.get-empty key_cmp key) ∙ f));
  changes = omega arith;
}
  where
    none : (e : CacheItem) → None ≡ Some e → ⊥
    none e j = cc
cache_after-within most_keys (e ∷ h) =
    cond_both (is_fresh e h) _ _ IsCacheWithin
    (λ t. (payload-within (cache_after most_keys h) e.payload (cache_after-within most_keys h)).cache)
    (λ t. cache_after-within most_keys h)

-- the text of each answer is one that a reply may have
pub answer-text : (most_keys : ℕ) (h : History) (a : Answer) → Among a (answers most_keys h)
    → length a.text ≤ MOST_TEXT
unfolding answers
answer-text most_keys [] a m = absurd m
answer-text most_keys (e ∷ h) a m =
    by (answer-text most_keys h a) (is_fresh e h) _
    (payload-within (cache_after most_keys h) e.payload (cache_after-within most_keys h)).text m
  where
    by : (Among a (answers most_keys h) → length a.text ≤ MOST_TEXT) → (t : Bool) (new : Answer)
        → length new.text ≤ MOST_TEXT
        → Among a (cond t (new ∷ answers most_keys h) (answers most_keys h))
        → length a.text ≤ MOST_TEXT
    by older true new l (inl i) = subst (λ (x : Answer). length x.text ≤ MOST_TEXT) (sym i) l
    by older true new l (inr k) = older k
    by older false new l k = older k
