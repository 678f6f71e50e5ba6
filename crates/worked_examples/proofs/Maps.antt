-- The entries of a map that was edited.
use Rattle.std.proofs.Common.{◌≡◌, Bool, true, false, not, cond, List, [], ◌∷◌, length, refl, sym, ap, ◌∙◌}
use Rattle.std.proofs.Common.{arith, Option, None}
use Rattle.std.specs.Ordering.{eq_by_cmp, is_eq}
use Rattle.std.specs.Cmp.{eq_by_cmp_equiv}
use Rattle.std.proofs.lemmas.Cmp.{alike_right}
use Rattle.std.specs.Cmp.Lexicographic.{nat_list_cmp_total}
use Rattle.std.specs.FinMap as map
use Rattle.std.specs.FinMap.{FinMap, find, len-entries, len-empty, get-entries, get-remove, entries_sorted}
use Rattle.std.specs.FinMap.{nat_cmp-IsAntisymmetric, slice_cmp-IsAntisymmetric}
use Rattle.std.specs.FinMap.Entries.{where_key, is_sorted-where_key, find-where_key, same_entries}
use Rattle.definitions.specs.Bytes.{Bytes}
use Rattle.definitions.specs.Cache.{CacheItem, key_cmp}

none-long : {A : Type 0} (es : List A) → length es ≡ 0 → es ≡ []
none-long [] e = refl
none-long (x ∷ es) e = absurd (omega (arith, e))

-- none
pub entries-empty : map.entries (map.empty {X = CacheItem} {R = key_cmp}) ≡ []
entries-empty = none-long _ (sym (len-entries map.empty) ∙ len-empty key_cmp CacheItem)

turned : (b : Bool) (o : Option CacheItem) → cond b None o ≡ cond (not b) o None
turned true o = refl
turned false o = refl

-- those whose keys are others
pub entries-remove : (m : FinMap key_cmp CacheItem) (k : Bytes)
    → map.entries (map.remove m k)
    ≡ where_key key_cmp (λ x. not (eq_by_cmp key_cmp k x)) (map.entries m)
entries-remove m k =
    same_entries key_cmp nat_list_cmp_total (slice_cmp-IsAntisymmetric nat_cmp-IsAntisymmetric)
    (map.entries (map.remove m k)) (where_key key_cmp other (map.entries m)) (entries_sorted (map.remove m k))
    (is_sorted-where_key key_cmp other (map.entries m) (entries_sorted m)) (λ q.
    sym (get-entries (map.remove m k) q)
    ∙ get-remove nat_list_cmp_total m k q
    ∙ ap (cond (eq_by_cmp key_cmp q k) None) (get-entries m q)
    ∙ turned (eq_by_cmp key_cmp q k) (find key_cmp q (map.entries m))
    ∙ ap (λ b. cond (not b) (find key_cmp q (map.entries m)) None)
    ((eq_by_cmp_equiv nat_list_cmp_total).symm q k)
    ∙ sym (find-where_key key_cmp other q
    (λ x t. ap (λ r. not (is_eq r)) (sym (alike_right nat_list_cmp_total q x k t))) (map.entries m)))
  where
    other : Bytes → Bool
    other x = not (eq_by_cmp key_cmp k x)
