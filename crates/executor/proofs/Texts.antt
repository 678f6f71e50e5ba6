-- How long the texts of replies are that come with a change of the cache.
use Rattle.ids.specs.declared.limits.TheConstants.{MOST_DATA}
use Rattle.std.proofs.Common.{ℕ, ◌≡◌, ◌⊎◌, ◌≤◌, ◌<◌, ◌+◌, ◌-◌, ◌%◌, ◌^◌, ◌==◌, ◌||◌, ◌++◌, [], ◌∷◌}
use Rattle.std.proofs.Common.{length, length-append, refl, ap, ◌∙◌, arith, Result, Ok, Err, OnErr, OnOk, inl, inr}
use Rattle.std.proofs.Common.{Option, Some, None, nat_le, decimal}
use Rattle.std.specs.Option.{option_map_or}
use Rattle.std.proofs.lemmas.Fmt.{length-decimal-le}
use Rattle.std.proofs.lemmas.Bool.{cond_both}
use Rattle.definitions.specs.Bytes.{Bytes}
use Rattle.definitions.specs.Requests.{Asked, Verb, set, add, replace, append, prepend, store, cas, get}
use Rattle.definitions.specs.Requests.{gets, delete, incr, decr}
use Rattle.definitions.specs.Canonical.{request_of}
use Rattle.definitions.proofs.ReplyTexts.{number_in-within}
use Rattle.executor.specs.Changing.{IsChanging}
use Rattle.definitions.specs.Replies.{Reply, reply_text}
use Rattle.definitions.specs.Replies as reply
use Rattle.definitions.specs.Cache.{Cache, CacheItem, Outcome, find, has, change, most_changes, number_in}
use Rattle.definitions.specs.Cache.{if_present, store_it, count_it, apply, apply_payload}

-- the text is short, or the cache is left as it was
abbrev pub IsShortOrSame : Cache → Outcome → Type 0
IsShortOrSame cache o = (length (reply_text o.1) ≤ 22) ⊎ (o.0 ≡ cache)

-- a change with a short text
changed-short : (cache : Cache) (key : Bytes) (flags : ℕ) (stored : Bytes) (told : Reply)
    → length (reply_text told) ≤ 22 → IsShortOrSame cache (change cache key flags stored told)
changed-short cache key flags stored told h =
    cond_both (cache.changes == most_changes) _ _ (IsShortOrSame cache) (λ e. inr refl) (λ e. inl h)

-- data was stored
stored-short : (cache : Cache) (key : Bytes) (flags : ℕ) (stored : Bytes)
    → IsShortOrSame cache (change cache key flags stored reply.stored)
stored-short cache key flags stored = changed-short cache key flags stored reply.stored (omega arith)

-- what is done with an entry that is there
present-short : (cache : Cache) (key : Bytes) (r : Reply) (present : CacheItem → Outcome) → ((e : CacheItem)
    → IsShortOrSame cache (present e)) → IsShortOrSame cache (if_present cache key (cache, r) present)
present-short cache key r present p = by (find cache key)
  where
    by : (o : Option CacheItem) → IsShortOrSame cache (option_map_or present o (cache, r))
    by None = inr refl
    by (Some e) = p e

-- a storage command
store-short : (cache : Cache) (verb : Verb) (key : Bytes) (flags : ℕ) (stored : Bytes)
    → IsShortOrSame cache (store_it cache verb key flags stored)
store-short cache set key flags stored = stored-short cache key flags stored
store-short cache add key flags stored =
    cond_both (has cache key) _ _ (IsShortOrSame cache) (λ e. inr refl)
    (λ e. stored-short cache key flags stored)
store-short cache replace key flags stored =
    cond_both (has cache key) _ _ (IsShortOrSame cache) (λ e. stored-short cache key flags stored)
    (λ e. inr refl)
store-short cache append key flags stored = present-short cache key reply.not_stored _ (λ x.
    cond_both (nat_le (length (x.stored ++ stored)) MOST_DATA) _ _ (IsShortOrSame cache)
    (λ e. stored-short cache key x.flags (x.stored ++ stored)) (λ e. inr refl))
store-short cache prepend key flags stored = present-short cache key reply.not_stored _ (λ x.
    cond_both (nat_le (length (stored ++ x.stored)) MOST_DATA) _ _ (IsShortOrSame cache)
    (λ e. stored-short cache key x.flags (stored ++ x.stored)) (λ e. inr refl))

-- the reply of a number below 2 ^ 64
number-short : (n : ℕ) → n < 2 ^ 64 → length (reply_text (reply.number n)) ≤ 22
number-short n l = let k = length-decimal-le 20 n (omega arith) (omega (arith, l)) l in
    let a = length-append (decimal n) (13 ∷ 10 ∷ []) in omega (arith, k, a)

-- a count whose numbers stay below 2 ^ 64
count-short : (cache : Cache) (key : Bytes) (f : ℕ → ℕ) → ((n : ℕ) → n < 2 ^ 64 → f n < 2 ^ 64)
    → IsShortOrSame cache (count_it cache key f)
count-short cache key f small =
    present-short cache key reply.not_found _ (λ e. by e (number_in e.stored) refl)
  where
    by : (e : CacheItem) → (o : Option ℕ) → number_in e.stored ≡ o
        → IsShortOrSame cache (option_map_or
        (λ n. change cache key e.flags (decimal (f n)) (reply.number (f n))) o (cache, reply.non_numeric))
    by e None i = inr refl
    by e (Some n) i = changed-short cache key e.flags (decimal (f n)) (reply.number (f n))
        (number-short (f n) (small n (number_in-within e.stored n i)))

-- what such a request does
apply-short : (cache : Cache) (r : Asked) → IsChanging r → IsShortOrSame cache (apply cache r)
apply-short cache (store verb key flags stored) h = store-short cache verb key flags stored
apply-short cache (cas key flags stored cas_unique) h = present-short cache key reply.not_found _ (λ x.
    cond_both (x.cas_unique == cas_unique) _ _ (IsShortOrSame cache)
    (λ e. stored-short cache key flags stored)
    (λ e. inr refl))
apply-short cache (incr key value) h =
    count-short cache key (λ n. (n + value) % 2 ^ 64) (λ n l. omega arith)
apply-short cache (decr key value) h = count-short cache key (λ n. n - value) (λ n l. omega (arith, l))
apply-short cache (delete key) h =
    cond_both (has cache key) _ _ (IsShortOrSame cache) (λ e. inl (omega arith)) (λ e. inr refl)
apply-short cache (get keys) h = absurd h
apply-short cache (gets keys) h = absurd h

-- where the text is long, the cache is left
pub left-same : (old new : Cache) (r : Asked) → IsChanging r → new ≡ (apply old r).0
    → 22 < length (reply_text (apply old r).1) → new ≡ old
left-same old new r h e long = e ∙ by (apply-short old r h)
  where
    by : IsShortOrSame old (apply old r) → (apply old r).0 ≡ old
    by (inl s) = absurd (omega (arith, s, long))
    by (inr k) = k

-- what a payload does that is a request, and one that isn't
pub payload-asks : (cache : Cache) (payload : Bytes) (r : Asked) → request_of payload ≡ Some r
    → apply_payload cache payload ≡ apply cache r
unfolding apply_payload
payload-asks cache payload r e =
    ap (λ (o : Option Asked). option_map_or (apply cache) o (cache, reply.no_request)) e

pub payload-asks_nothing : (cache : Cache) (payload : Bytes) → request_of payload ≡ None
    → apply_payload cache payload ≡ (cache, reply.no_request)
unfolding apply_payload
payload-asks_nothing cache payload e =
    ap (λ (o : Option Asked). option_map_or (apply cache) o (cache, reply.no_request)) e

-- at a refusal
pub on_err : {T E P : Type 0} (r : Result T E) → P → OnErr r P
on_err (Ok x) p = tt
on_err (Err e) p = p

-- at an answer
pub on_ok : {T E P : Type 0} (r : Result T E) → P → OnOk r P
on_ok (Ok x) p = p
on_ok (Err e) p = tt
