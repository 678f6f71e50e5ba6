-- What a use, a change and a removal do to the cache of some entries.
use Rattle.std.proofs.Common.{◌≡◌, ℕ, ◌+◌, ◌-◌, ◌≤◌, ◌==◌, ◌||◌, Bool, true, false, List, [], ◌∷◌, length}
use Rattle.std.proofs.Common.{refl, sym, ap, subst, ◌∙◌, Option, Some, None, is_some, arith, take, nat_lt}
use Rattle.std.specs.Global.{Vec}
use Rattle.std.specs.Map.{lookup, lookup_entry, remove_entry}
use Rattle.std.specs.Option.{option_map, option_map_or}
use Rattle.std.specs.FinMap as map
use Rattle.std.specs.FinMap.{FinMap}
use Rattle.std.proofs.lemmas.Bool.{cond-true, cond-false, ltb-true, ltb-false, lt-ltb, le-ltb}
use Rattle.std.proofs.lemmas.List.{take_all}
use Rattle.lru.specs.LruCache.{LruCache, lru_cache, promoted, put_entries}
use Rattle.ids.specs.Sizes.{IsRoom}
use Rattle.definitions.specs.Bytes.{Bytes}
use Rattle.definitions.specs.Cache.{CacheItem, Cache, key_cmp, has, used, least_used, beside, change}
use Rattle.definitions.specs.Cache.{most_changes}
use Rattle.definitions.specs.Replies.{Reply}
use Rattle.definitions.specs.Cache as definitions
use Rattle.cache.specs.declared.entry.Entry.{Entry}
use Rattle.cache.specs.Tables.{Entries, count_of, item_of, last_use_in, table_of, cache_of, IsKept}
use Rattle.cache.proofs.Lookups.{is_at, get-table, has-table, lookup-entry, entry-key, table-front}
use Rattle.cache.proofs.Lookups.{insert-remove}
use Rattle.cache.proofs.Orders.{Falls, Lacks, falls, in-order, falls-remove, falls-front, removed-lacks}
use Rattle.cache.proofs.Orders.{none-lacks, lacks-remove, length-remove, length-removed, removed-table}
use Rattle.cache.proofs.Orders.{len-table}
use Rattle.cache.proofs.Evictions.{oldest, but_oldest, take-but_oldest, table-but_oldest, least-is}
use Rattle.cache.proofs.Evictions.{length-but_oldest, but_oldest-removes}

module _ (uses : List Bytes) (es : Entries) (changes most : ℕ) where
  abbrev now : Cache
  now = cache_of uses es changes most

  -- what is found of a key
  found-entry : (q : Bytes) (e : Vec ℕ × Entry) → lookup_entry (is_at q) es ≡ Some e
      → lookup (is_at q) es ≡ Some e.1
  found-entry q e h = lookup-entry (is_at q) es ∙ ap (option_map (λ x. x.1)) h

  none-entry : (q : Bytes) → lookup_entry (is_at q) es ≡ None → lookup (is_at q) es ≡ None
  none-entry q h = lookup-entry (is_at q) es ∙ ap (option_map (λ x. x.1)) h

  -- an entry that was there goes first with this value
  front-table : Falls uses es → (q : Bytes) (e : Vec ℕ × Entry) (v : Entry)
      → lookup_entry (is_at q) es ≡ Some e
      → table_of (q ∷ uses) ((e.0, v) ∷ remove_entry (is_at q) es)
      ≡ map.insert (table_of uses es) q (item_of (count_of uses + 1) v)
  front-table h q e v f =
      let k = entry-key q es e f in
      subst (λ x. table_of (x ∷ uses) ((e.0, v) ∷ remove_entry (is_at q) es)
      ≡ map.insert (table_of uses (remove_entry (is_at q) es)) x (item_of (count_of uses + 1) v)) k
      (table-front uses e.0 v (remove_entry (is_at q) es))
      ∙ ap (λ (t : FinMap key_cmp CacheItem). map.insert t q (item_of (count_of uses + 1) v))
      (removed-table uses q es h)
      ∙ insert-remove (table_of uses es) q (item_of (count_of uses + 1) v)

  front-kept : IsKept uses es most → (q : Bytes) (e : Vec ℕ × Entry) (v : Entry)
      → lookup_entry (is_at q) es ≡ Some e
      → IsKept (q ∷ uses) ((e.0, v) ∷ remove_entry (is_at q) es) most
  front-kept h q e v f =
      let k = entry-key q es e f in
      let g = falls uses es h.0 in
      let order = falls-front uses e.0 v (remove_entry (is_at q) es)
      (subst (λ x. Lacks x (remove_entry (is_at q) es)) (sym k) (removed-lacks uses q es g))
      (falls-remove uses (is_at q) es g) in
      let n = length-removed (is_at q) es (ap is_some (found-entry q e f)) in
      let room = h.1 in (
        in-order (q ∷ uses) ((e.0, v) ∷ remove_entry (is_at q) es) (subst (λ x. Falls (x ∷ uses) ((e.0, v) ∷ remove_entry (is_at q) es)) k order),
        omega (arith, n, room),
        h.2,
      )

  -- a removal keeps the order
  pub remove-kept : IsKept uses es most → (q : Bytes) → IsKept uses (remove_entry (is_at q) es) most
  remove-kept h q =
      let n = length-remove (is_at q) es in
      let room = h.1 in (
        in-order uses (remove_entry (is_at q) es) (falls-remove uses (is_at q) es (falls uses es h.0)),
        omega (arith, n, room),
        h.2,
      )

  -- what it leaves
  pub remove-table : IsKept uses es most → (q : Bytes)
      → cache_of uses (remove_entry (is_at q) es) changes most
      ≡ record now { entries = map.remove now.entries q }
  remove-table h q = ap (λ (t : FinMap key_cmp CacheItem). record now { entries = t })
      (removed-table uses q es (falls uses es h.0))

  -- ---- a use

  -- of a key that is there
  pub use-there : IsKept uses es most → (q : Bytes) → is_some (lookup (is_at q) es) ≡ true
      → (cache_of (q ∷ uses) (promoted (is_at q) es) changes most ≡ used now q)
      × IsKept (q ∷ uses) (promoted (is_at q) es) most
  use-there h q s = by (lookup_entry (is_at q) es) refl
    where
      by : (o : Option (Vec ℕ × Entry)) → lookup_entry (is_at q) es ≡ o
          → (cache_of (q ∷ uses) (option_map_or (λ e. e ∷ remove_entry (is_at q) es) o es) changes most
          ≡ used now q)
          × IsKept (q ∷ uses) (option_map_or (λ e. e ∷ remove_entry (is_at q) es) o es) most
      by None f = absurd (none (sym (ap is_some (none-entry q f)) ∙ s))
        where
          none : false ≡ true → ⊥
          none j = cc
      by (Some e) f = (
        ap (λ (t : FinMap key_cmp CacheItem). record now { entries = t; uses = count_of uses + 1 })
            (front-table (falls uses es h.0) q e e.1 f)
            ∙ sym (ap (λ (o : Option CacheItem). option_map_or
            (λ x. record now {
              entries = map.insert now.entries q (record x { last_use = now.uses + 1 });
              uses = now.uses + 1;
            }) o now)
            (get-table uses es q ∙ ap (option_map (item_of (last_use_in uses q))) (found-entry q e f))),
        front-kept h q e e.1 f,
      )

  -- of one that isn't
  pub use-absent : (q : Bytes) → is_some (lookup (is_at q) es) ≡ false
      → (cache_of uses (promoted (is_at q) es) changes most ≡ used now q)
      × (promoted (is_at q) es ≡ es)
  use-absent q s = by (lookup_entry (is_at q) es) refl
    where
      by : (o : Option (Vec ℕ × Entry)) → lookup_entry (is_at q) es ≡ o
          → (cache_of uses (option_map_or (λ e. e ∷ remove_entry (is_at q) es) o es) changes most
          ≡ used now q)
          × (option_map_or (λ e. e ∷ remove_entry (is_at q) es) o es ≡ es)
      by None f = (
        sym (ap (λ (o : Option CacheItem). option_map_or
            (λ x. record now {
              entries = map.insert now.entries q (record x { last_use = now.uses + 1 });
              uses = now.uses + 1;
            }) o now)
            (get-table uses es q ∙ ap (option_map (item_of (last_use_in uses q))) (none-entry q f))),
        refl,
      )
      by (Some e) f = absurd (none (sym s ∙ ap is_some (found-entry q e f)))
        where
          none : false ≡ true → ⊥
          none j = cc

  -- ---- a change

  abbrev Changed : Vec ℕ → Entry → Entries → Type 0
  Changed k v after =
      (table_of (k.items ∷ uses) after
      ≡ map.insert (beside now k.items) k.items (item_of (count_of uses + 1) v))
      × IsKept (k.items ∷ uses) after most

  -- of a key that is there
  change-there : IsKept uses es most → (k : Vec ℕ) (v : Entry) (e : Vec ℕ × Entry)
      → lookup_entry (is_at k.items) es ≡ Some e
      → Changed k v ((e.0, v) ∷ remove_entry (is_at k.items) es)
  change-there h k v e f =
      let there : has now k.items ≡ true =
      has-table uses es k.items ∙ ap is_some (found-entry k.items e f) in
      let all : beside now k.items ≡ table_of uses es =
      cond-true _ _ _ (ap (λ b. b || nat_lt (map.len now.entries) most) there) in (
        front-table (falls uses es h.0) k.items e v f
            ∙ sym (ap (λ (t : FinMap key_cmp CacheItem).
            map.insert t k.items (item_of (count_of uses + 1) v)) all),
        front-kept h k.items e v f,
      )

  -- a new one, before entries that lack it
  change-new : IsKept uses es most → (k : Vec ℕ) (v : Entry) (fs : Entries) → Lacks k.items fs → Falls uses fs
      → length fs + 1 ≤ most → beside now k.items ≡ table_of uses fs → Changed k v ((k, v) ∷ fs)
  change-new h k v fs l g n b = (
    table-front uses k v fs
        ∙ sym (ap (λ (t : FinMap key_cmp CacheItem).
        map.insert t k.items (item_of (count_of uses + 1) v)) b),
    (in-order (k.items ∷ uses) ((k, v) ∷ fs) (falls-front uses k v fs l g), omega (arith, n), h.2),
  )

-- of a new key in a full cache
change-full : (uses : List Bytes) (es : Entries) (changes most : ℕ) → IsKept uses es most
    → (k : Vec ℕ) (v : Entry) → lookup (is_at k.items) es ≡ None → length es ≡ most
    → Changed uses es changes most k v ((k, v) ∷ take (most - 1) es)
change-full uses [] changes most h k v f n = let l = h.2.0 in absurd (omega (arith, n, l))
change-full uses (e ∷ fs) changes most h k v f n =
    let g = falls uses (e ∷ fs) h.0 in
    let r = but_oldest-removes uses e fs g in
    let t = map.len (table_of uses (e ∷ fs)) in
    let len : t ≡ length (e ∷ fs) = len-table uses (e ∷ fs) g in
    let absent : has (cache_of uses (e ∷ fs) changes most) k.items ≡ false =
    has-table uses (e ∷ fs) k.items ∙ ap is_some f in
    let full : (has (cache_of uses (e ∷ fs) changes most) k.items || nat_lt t most) ≡ false =
    ap (λ b. b || nat_lt t most) absent ∙ le-ltb t most (omega (arith, len, n)) in
    let goes : beside (cache_of uses (e ∷ fs) changes most) k.items ≡ table_of uses (but_oldest e fs) =
    cond-false _ _ _ full
    ∙ ap (λ (o : Option Bytes). option_map_or (map.remove (table_of uses (e ∷ fs))) o (table_of uses (e ∷ fs)))
    (least-is uses e fs changes most g)
    ∙ sym (table-but_oldest uses e fs g) in
    let some : take (most - 1) (e ∷ fs) ≡ but_oldest e fs =
    ap (λ x. take x (e ∷ fs)) (omega (arith, n)) ∙ take-but_oldest e fs in
    let size = length-but_oldest e fs in
    subst (λ (l : Entries). Changed uses (e ∷ fs) changes most k v ((k, v) ∷ l)) (sym some)
    (change-new uses (e ∷ fs) changes most h k v (but_oldest e fs)
    (subst (Lacks k.items) (sym r) (lacks-remove k.items (is_at (oldest e fs)) (e ∷ fs) (none-lacks k.items (e ∷ fs) f)))
    (subst (Falls uses) (sym r) (falls-remove uses (is_at (oldest e fs)) (e ∷ fs) g))
    (omega (arith, size, n)) goes)

-- of a new key
change-absent : (uses : List Bytes) (es : Entries) (changes most : ℕ) → IsKept uses es most
    → (k : Vec ℕ) (v : Entry) → lookup (is_at k.items) es ≡ None
    → Changed uses es changes most k v ((k, v) ∷ take (most - 1) es)
change-absent uses es changes most h k v f = by (nat_lt (length es) most) refl
  where
    by : (b : Bool) → nat_lt (length es) most ≡ b
        → Changed uses es changes most k v ((k, v) ∷ take (most - 1) es)
    by true b =
        let g = falls uses es h.0 in
        let few = ltb-true (length es) most b in
        let t = map.len (table_of uses es) in
        let len : t ≡ length es = len-table uses es g in
        let absent : has (cache_of uses es changes most) k.items ≡ false =
        has-table uses es k.items ∙ ap is_some f in
        let room : (has (cache_of uses es changes most) k.items || nat_lt t most) ≡ true =
        ap (λ a. a || nat_lt t most) absent ∙ lt-ltb t most (omega (arith, len, few)) in
        subst (λ (l : Entries). Changed uses es changes most k v ((k, v) ∷ l))
        (sym (take_all (most - 1) es (omega (arith, few))))
        (change-new uses es changes most h k v es (none-lacks k.items es f) g (omega (arith, few))
        (cond-true _ _ _ room))
    by false b =
        let many = ltb-false (length es) most b in
        let room = h.1 in
        change-full uses es changes most h k v f (omega (arith, many, room))

-- a change of any key
pub change-keeps : (uses : List Bytes) (es : Entries) (changes most : ℕ) → IsKept uses es most
    → (k : Vec ℕ) (v : Entry)
    → Changed uses es changes most k v
    (put_entries (λ (x y : Vec ℕ). is_at x.items y) (lru_cache es most) k v)
change-keeps uses es changes most h k v = by (lookup_entry (is_at k.items) es) refl
  where
    by : (o : Option (Vec ℕ × Entry)) → lookup_entry (is_at k.items) es ≡ o
        → Changed uses es changes most k v (option_map_or (λ e. (e.0, v) ∷ remove_entry (is_at k.items) es) o
        ((k, v) ∷ take (most - 1) es))
    by None f = change-absent uses es changes most h k v (none-entry uses es changes most k.items f)
    by (Some e) f = change-there uses es changes most h k v e f

-- what a change leaves
pub changed : (uses : List Bytes) (es : Entries) (changes most : ℕ) → IsKept uses es most
    → (k : Vec ℕ) (flags : ℕ) (stored : Vec ℕ) (key : Bytes) (told : Reply)
    → k.items ≡ key → (changes == most_changes) ≡ false
    → (after : LruCache (Vec ℕ) Entry) (more : List Bytes)
    → after
    ≡ lru_cache (put_entries (λ (x y : Vec ℕ). is_at x.items y) (lru_cache es most) k
    (record { flags = flags; stored = stored; cas_unique = changes + 1 })) most
    → more ≡ key ∷ uses
    → (cache_of more after.entries (changes + 1) after.cap
    ≡ (change (cache_of uses es changes most) key flags stored.items told).0)
    × IsKept more after.entries after.cap
changed uses es changes most h k flags stored key told i n after more a m = (
  ap (λ (l : LruCache (Vec ℕ) Entry). cache_of more l.entries (changes + 1) l.cap) a
      ∙ ap (λ (us : List Bytes). cache_of us next (changes + 1) most) us
      ∙ ap (λ (t : FinMap key_cmp CacheItem). record cache {
        entries = t;
        changes = changes + 1;
        uses = count_of uses + 1;
      }) both.0
      ∙ ap (λ x. record cache {
        entries = map.insert (beside cache x) x (item_of (count_of uses + 1) v);
        changes = changes + 1;
        uses = count_of uses + 1;
      }) i
      ∙ sym (ap (λ (o : definitions.Outcome). o.0) (cond-false _ _ _ n)),
  subst (λ (l : LruCache (Vec ℕ) Entry). IsKept more l.entries l.cap) (sym a)
      (subst (λ (us : List Bytes). IsKept us next most) (sym us) both.1),
)
  where
    cache : Cache
    cache = cache_of uses es changes most

    v : Entry
    v = record { flags = flags; stored = stored; cas_unique = changes + 1 }

    next : Entries
    next = put_entries (λ (x y : Vec ℕ). is_at x.items y) (lru_cache es most) k v

    both : Changed uses es changes most k v next
    both = change-keeps uses es changes most h k v

    us : more ≡ k.items ∷ uses
    us = m ∙ ap (λ (x : Bytes). x ∷ uses) (sym i)

-- a new one
pub new-kept : (uses : List Bytes) (old new : LruCache (Vec ℕ) Entry) (n most cap : ℕ) → IsRoom most
    → n ≡ most → old ≡ lru_cache [] cap → new ≡ lru_cache (take n old.entries) n
    → IsKept uses new.entries new.cap
new-kept uses old new n most cap h i o a =
    subst (λ (l : LruCache (Vec ℕ) Entry). IsKept uses l.entries l.cap)
    (sym (a ∙ ap (λ (l : LruCache (Vec ℕ) Entry). lru_cache (take n l.entries) n) o
    ∙ ap (λ (l : Entries). lru_cache l n) (take_all n [] (omega arith))
    ∙ ap (λ x. lru_cache [] x) i))
    (in-order uses [] tt, omega arith, h)
