-- Requests in a map, each under its client and number.
use Rattle.std.proofs.Common.{◌≡◌, ℕ, Bool, true, false, ◌||◌, List, [], ◌∷◌, ◌++◌, filter, refl, sym, ap}
use Rattle.std.proofs.Common.{◌∙◌, true≢false, Option, Some, None, is_some, if◌then◌else◌}
use Rattle.std.proofs.lemmas.List.{map-append}
use Rattle.std.proofs.lemmas.Map.Made.{is_some-lookup}
use Rattle.std.specs.List.{list_any}
use Rattle.std.specs.Map.{keys_of, values_of}
use Rattle.indexmap.specs.IndexMap.{IndexMap, get_by, insert_entry}
use Rattle.indexmap.proofs.CallerLemmas.{insert_entry-new}
use Rattle.definitions.specs.Frames.{Command}
use Rattle.mempool.specs.Pool.{is_of, keyed}

pub values-keyed : (rs : List Command) → values_of (keyed rs) ≡ rs
values-keyed [] = refl
values-keyed (r ∷ rs) = ap (λ l. r ∷ l) (values-keyed rs)

-- the requests of entries that are keyed
pub values-are : (es : List ((ℕ × ℕ) × Command)) (rs : List Command) → es ≡ keyed rs → values_of es ≡ rs
values-are es rs e = ap values_of e ∙ values-keyed rs

pub keyed-values : (es : List ((ℕ × ℕ) × Command)) (rs : List Command) → es ≡ keyed rs
    → es ≡ keyed (values_of es)
keyed-values es rs e = e ∙ sym (ap keyed (values-are es rs e))

-- a test of keys that tests the requests
pub any-keyed : (test : ℕ × ℕ → Bool) (t : Command → Bool) → ((r : Command) → test (r.client, r.seq) ≡ t r)
    → (rs : List Command) → list_any test (keys_of (keyed rs)) ≡ list_any t rs
any-keyed test t same [] = refl
any-keyed test t same (r ∷ rs) = λ i. same r i || any-keyed test t same rs i

pub found-keyed : {S : Type 0} (test : ℕ × ℕ → Bool) (t : Command → Bool)
    → ((r : Command) → test (r.client, r.seq) ≡ t r)
    → (m : IndexMap (ℕ × ℕ) Command S) (rs : List Command) → m.entries ≡ keyed rs
    → is_some (get_by test m) ≡ list_any t rs
found-keyed test t same m rs e =
    is_some-lookup test m.entries ∙ ap (λ es. list_any test (keys_of es)) e ∙ any-keyed test t same rs

none-from : {A : Type 0} (o : Option A) → is_some o ≡ false → o ≡ None
none-from None e = refl
none-from (Some x) e = absurd (true≢false e)

-- a request whose key is new stands last
pub inserted-keyed : {S : Type 0} (eq : ℕ × ℕ → ℕ × ℕ → Bool) (m : IndexMap (ℕ × ℕ) Command S)
    (rs : List Command) (k : ℕ × ℕ) (v : Command)
    → ((r : Command) → eq k (r.client, r.seq) ≡ is_of k.0 k.1 r) → m.entries ≡ keyed rs
    → k ≡ (v.client, v.seq)
    → list_any (is_of k.0 k.1) rs ≡ false → insert_entry eq m.entries k v ≡ keyed (rs ++ v ∷ [])
inserted-keyed eq m rs k v same e key new =
    insert_entry-new eq m k v (none-from _ (found-keyed (eq k) (is_of k.0 k.1) same m rs e ∙ new))
    ∙ ap (λ es. es ++ (k, v) ∷ []) e
    ∙ ap (λ a. keyed rs ++ (a, v) ∷ []) key
    ∙ sym (map-append (λ r. ((r.client, r.seq), r)) rs (v ∷ []))

-- what a test of requests leaves of them
pub filtered-keyed : (t : Command → Bool) (rs : List Command)
    → filter (λ e. t e.1) (keyed rs) ≡ keyed (filter t rs)
filtered-keyed t [] = refl
filtered-keyed t (r ∷ rs) = by (t r) (filtered-keyed t rs)
  where
    by : (b : Bool) → filter (λ e. t e.1) (keyed rs) ≡ keyed (filter t rs)
        → (if b then ((r.client, r.seq), r) ∷ filter (λ e. t e.1) (keyed rs) else filter (λ e. t e.1)
        (keyed rs)) ≡ keyed (if b then r ∷ filter t rs else filter t rs)
    by true rest = ap (λ l. ((r.client, r.seq), r) ∷ l) rest
    by false rest = rest
