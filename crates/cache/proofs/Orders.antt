-- Entries in the order of their last uses, newest first, through edits and uses.
use Rattle.std.proofs.Common.{◌≡◌, ℕ, ◌+◌, ◌<◌, ◌≤◌, Bool, true, false, cond, List, [], ◌∷◌, length, refl, sym}
use Rattle.std.proofs.Common.{ap, subst, ◌∙◌, Some, None, is_some, arith}
use Rattle.std.specs.Global.{Vec}
use Rattle.std.specs.Map.{keys_of, lookup, remove_entry}
use Rattle.std.specs.List.{AllByRecursion, IsDistinct}
use Rattle.std.specs.List.Sorted.{IsStrictlySortedBy}
use Rattle.std.specs.Ordering.{nat_cmp}
use Rattle.std.specs.Cmp.{nat_cmp_is}
use Rattle.std.proofs.lemmas.Cmp.{ranked}
use Rattle.std.specs.declared.cmp.Ordering.TheVariants.{Less}
use Rattle.std.specs.Cmp.Lexicographic.{nat_list_cmp_total, texts_ties, same_text}
use Rattle.std.specs.FinMap as map
use Rattle.std.specs.FinMap.{len-empty, len-insert}
use Rattle.std.proofs.lemmas.Bool.{cond_both}
use Rattle.definitions.specs.Bytes.{Bytes}
use Rattle.definitions.specs.Cache.{CacheItem, key_cmp}
use Rattle.cache.specs.declared.entry.Entry.{Entry}
use Rattle.cache.specs.Tables.{Entries, count_of, last_use_in, item_of, pairs_of, table_of, IsInOrder}
use Rattle.cache.proofs.Lookups.{is_at, same, laws, same-is, has-table, last-own, last-other, table-remove}

-- all keys of these were used before n
abbrev pub AllBefore : List Bytes → ℕ → Entries → Type 0
AllBefore used n [] = Unit {0}
AllBefore used n (e ∷ es) = (last_use_in used e.0.items < n) × AllBefore used n es

-- each key was used before those that stand above it
abbrev pub Falls : List Bytes → Entries → Type 0
Falls used [] = Unit {0}
Falls used (e ∷ es) = AllBefore used (last_use_in used e.0.items) es × Falls used es

-- ---- two words for one order

all-before : (used : List Bytes) (n : ℕ) (es : Entries)
    → AllByRecursion (λ y. nat_cmp (last_use_in used y.items) n ≡ Less) (keys_of es) → AllBefore used n es
all-before used n [] h = tt
all-before used n (e ∷ es) h = (ranked _ _ Less (sym h.0), all-before used n es h.1)

before-all : (used : List Bytes) (n : ℕ) (es : Entries) → AllBefore used n es
    → AllByRecursion (λ y. nat_cmp (last_use_in used y.items) n ≡ Less) (keys_of es)
before-all used n [] h = tt
before-all used n (e ∷ es) h = (sym (nat_cmp_is _ _ Less h.0), before-all used n es h.1)

pub falls : (used : List Bytes) (es : Entries) → IsInOrder used es → Falls used es
unfolding IsStrictlySortedBy
falls used [] h = tt
falls used (e ∷ es) h = (all-before used _ es h.0, falls used es h.1)

pub in-order : (used : List Bytes) (es : Entries) → Falls used es → IsInOrder used es
unfolding IsStrictlySortedBy
in-order used [] h = tt
in-order used (e ∷ es) h = (before-all used _ es h.0, in-order used es h.1)

-- ---- fewer entries

pub before-remove : (used : List Bytes) (n : ℕ) (t : Vec ℕ → Bool) (es : Entries) → AllBefore used n es
    → AllBefore used n (remove_entry t es)
before-remove used n t [] h = tt
before-remove used n t (e ∷ es) h =
    cond_both (t e.0) _ _ (AllBefore used n) (λ b. h.1) (λ b. (h.0, before-remove used n t es h.1))

pub falls-remove : (used : List Bytes) (t : Vec ℕ → Bool) (es : Entries) → Falls used es
    → Falls used (remove_entry t es)
falls-remove used t [] h = tt
falls-remove used t (e ∷ es) h = cond_both (t e.0) _ _ (Falls used) (λ b. h.1)
    (λ b. (before-remove used _ t es h.0, falls-remove used t es h.1))

pub length-remove : (t : Vec ℕ → Bool) (es : Entries) → length (remove_entry t es) ≤ length es
length-remove t [] = omega arith
length-remove t (e ∷ es) =
    let rest = length-remove t es in
    cond_both (t e.0) _ _ (λ (l : Entries). length l ≤ length (e ∷ es)) (λ b. omega arith)
    (λ b. omega (arith, rest))

-- where the key is there, one goes
pub length-removed : (t : Vec ℕ → Bool) (es : Entries) → is_some (lookup t es) ≡ true
    → length (remove_entry t es) + 1 ≡ length es
length-removed t [] h = absurd (none h)
  where
    none : false ≡ true → ⊥
    none k = cc
length-removed t (e ∷ es) h = by (t e.0) h (length-removed t es)
  where
    by : (b : Bool) → is_some (cond b (Some e.1) (lookup t es)) ≡ true
        → (is_some (lookup t es) ≡ true → length (remove_entry t es) + 1 ≡ length es)
        → length (cond b es (e ∷ remove_entry t es)) + 1 ≡ length (e ∷ es)
    by true k rest = omega arith
    by false k rest = let n = rest k in omega (arith, n)

-- ---- keys are distinct

-- none of these has the key
abbrev pub Lacks : Bytes → Entries → Type 0
Lacks q [] = Unit {0}
Lacks q (e ∷ es) = (same q e.0.items ≡ false) × Lacks q es

-- a key that was used later isn't among them
pub before-lacks : (used : List Bytes) (q : Bytes) (es : Entries) → AllBefore used (last_use_in used q) es
    → Lacks q es
before-lacks used q [] h = tt
before-lacks used q (e ∷ es) h = (by (same q e.0.items) refl, before-lacks used q es h.1)
  where
    by : (b : Bool) → same q e.0.items ≡ b → b ≡ false
    by false k = refl
    by true k =
        let i = ap (last_use_in used) (same-is q e.0.items k) in
        let l = h.0 in
        absurd (omega (arith, i, l))

-- nor one that isn't found
pub none-lacks : (q : Bytes) (es : Entries) → lookup (is_at q) es ≡ None → Lacks q es
none-lacks q [] h = tt
none-lacks q (e ∷ es) h = by (is_at q e.0) refl h (none-lacks q es)
  where
    by : (b : Bool) → is_at q e.0 ≡ b → cond b (Some e.1) (lookup (is_at q) es) ≡ None
        → (lookup (is_at q) es ≡ None → Lacks q es) → Lacks q (e ∷ es)
    by true t k rest = absurd (some k)
      where
        some : Some e.1 ≡ None → ⊥
        some j = cc
    by false t k rest = (sym (texts_ties q e.0.items) ∙ t, rest k)

-- nor one that was taken out
pub removed-lacks : (used : List Bytes) (q : Bytes) (es : Entries) → Falls used es
    → Lacks q (remove_entry (is_at q) es)
removed-lacks used q [] h = tt
removed-lacks used q (e ∷ es) h = by (is_at q e.0) refl (removed-lacks used q es h.1)
  where
    by : (b : Bool) → is_at q e.0 ≡ b → Lacks q (remove_entry (is_at q) es)
        → Lacks q (cond b es (e ∷ remove_entry (is_at q) es))
    by true t rest =
        let i = same_text q e.0.items (sym t) in
        before-lacks used q es (subst (λ k. AllBefore used (last_use_in used k) es) (sym i) h.0)
    by false t rest = (sym (texts_ties q e.0.items) ∙ t, rest)

distinct-head : (used : List Bytes) (q : Bytes) (es : Entries) → Lacks q es
    → AllByRecursion (λ y. same q y ≡ false) (keys_of (pairs_of used es))
distinct-head used q [] h = tt
distinct-head used q (e ∷ es) h = (h.0, distinct-head used q es h.1)

pub distinct : (used : List Bytes) (es : Entries) → Falls used es
    → IsDistinct same (keys_of (pairs_of used es))
unfolding IsDistinct
distinct used [] h = tt
distinct used (e ∷ es) h =
    (distinct-head used e.0.items es (before-lacks used e.0.items es h.0), distinct used es h.1)

-- an entry that is taken out is removed
pub removed-table : (used : List Bytes) (q : Bytes) (es : Entries) → Falls used es
    → table_of used (remove_entry (is_at q) es) ≡ map.remove (table_of used es) q
removed-table used q es h = table-remove used q es (distinct used es h)

-- ---- how many

lacks-none : (q : Bytes) (es : Entries) → Lacks q es → is_some (lookup (is_at q) es) ≡ false
lacks-none q [] h = refl
lacks-none q (e ∷ es) h = ap (λ b. is_some (cond b (Some e.1) (lookup (is_at q) es)))
    (texts_ties q e.0.items ∙ h.0) ∙ lacks-none q es h.1

-- a table has as many keys as entries
pub len-table : (used : List Bytes) (es : Entries) → Falls used es → map.len (table_of used es) ≡ length es
len-table used [] h = len-empty key_cmp CacheItem
len-table used (e ∷ es) h =
    let absent : map.contains_key (table_of used es) e.0.items ≡ false =
    has-table used es e.0.items ∙ lacks-none e.0.items es (before-lacks used e.0.items es h.0) in
    let n = map.len (table_of used es) in
    let more : map.len (table_of used (e ∷ es)) ≡ n + 1 =
    len-insert nat_list_cmp_total (table_of used es) e.0.items (item_of (last_use_in used e.0.items) e.1)
    ∙ ap (λ b. cond b n (n + 1)) absent in
    let rest = len-table used es h.1 in
    omega (arith, more, rest)

-- ---- a use

-- no last use is beyond the count
last-within : (used : List Bytes) (q : Bytes) → last_use_in used q < count_of used + 1
last-within [] q = omega arith
last-within (k ∷ used) q =
    let rest = last-within used q in
    cond_both (same q k) _ _ (λ n. n < count_of (k ∷ used) + 1) (λ b. omega arith) (λ b. omega (arith, rest))

before-use : (used : List Bytes) (q : Bytes) (n : ℕ) (es : Entries) → Lacks q es → AllBefore used n es
    → AllBefore (q ∷ used) n es
before-use used q n [] l h = tt
before-use used q n (e ∷ es) l h =
    let i = last-other used q e.0.items (laws.symm e.0.items q ∙ l.0) in
    let b = h.0 in
    (omega (arith, i, b), before-use used q n es l.1 h.1)

all-within : (used : List Bytes) (es : Entries) → AllBefore used (count_of used + 1) es
all-within used [] = tt
all-within used (e ∷ es) = (last-within used e.0.items, all-within used es)

falls-use : (used : List Bytes) (q : Bytes) (es : Entries) → Lacks q es → Falls used es → Falls (q ∷ used) es
falls-use used q [] l h = tt
falls-use used q (e ∷ es) l h = (
  subst (λ n. AllBefore (q ∷ used) n es) (sym (last-other used q e.0.items (laws.symm e.0.items q ∙ l.0)))
      (before-use used q _ es l.1 h.0),
  falls-use used q es l.1 h.1,
)

-- an entry goes first, under a key that is being used
pub falls-front : (used : List Bytes) (k : Vec ℕ) (v : Entry) (es : Entries) → Lacks k.items es
    → Falls used es → Falls (k.items ∷ used) ((k, v) ∷ es)
falls-front used k v es l h = (
  subst (λ n. AllBefore (k.items ∷ used) n es) (sym (last-own used k.items))
      (before-use used k.items _ es l (all-within used es)),
  falls-use used k.items es l h,
)

-- fewer entries lack what all lack
pub lacks-remove : (q : Bytes) (t : Vec ℕ → Bool) (es : Entries) → Lacks q es → Lacks q (remove_entry t es)
lacks-remove q t [] l = tt
lacks-remove q t (e ∷ es) l =
    cond_both (t e.0) _ _ (Lacks q) (λ b. l.1) (λ b. (l.0, lacks-remove q t es l.1))
