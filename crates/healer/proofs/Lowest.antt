-- The digests of a block and of all below it.
use Rattle.std.specs.Prelude.{slice_index_or, nat_lt}
use Rattle.std.proofs.Common.{ℕ, ◌+◌, ◌<◌, ◌≤◌, ◌≡◌, List, [], ◌∷◌, ◌++◌, map, length, take}
use Rattle.std.proofs.Common.{length-append, sym, ap, ◌∙◌, refl, arith, inl, inr}
use Rattle.std.proofs.lemmas.Bool.{cond-true, cond-false, cases_lt, lt-ltb, le-ltb}
use Rattle.std.proofs.lemmas.List.{map-append, take_more, take_all, get_or_append_left, get_or_at}
use Rattle.definitions.specs.Branches.{Branch}
use Rattle.definitions.specs.Bytes.{Bytes}
use Rattle.definitions.specs.Digests.{digest_of}
use Rattle.definitions.specs.Lists.{beginning}
use Rattle.recovery.specs.Healing.{lowest_first}

pub length-lowest : (x : Branch) → length (lowest_first x) ≡ length x
unfolding lowest_first
length-lowest [] = refl
length-lowest (b ∷ parent) =
    let h = length-lowest parent in
    let e = length-append (lowest_first parent) ((b ∷ parent) ∷ []) in
    omega (arith, h, e)

-- the block of each height
lowest-at : (x : Branch) (i : ℕ) (d : Branch) → i < length x → slice_index_or (lowest_first x) i d ≡ beginning (i + 1) x
unfolding lowest_first beginning
lowest-at [] i d l = absurd (omega (arith, l))
lowest-at (b ∷ parent) i d l = elim (cases_lt i (length parent)) [
  | inl m ↦ (
      let n = length-lowest parent in
      get_or_append_left (lowest_first parent) ((b ∷ parent) ∷ []) d i (omega (arith, m, n))
      ∙ (lowest-at parent i d m
      ∙ sym (cond-false (nat_lt (length parent) (i + 1)) (b ∷ parent) (beginning (i + 1) parent)
      (le-ltb (length parent) (i + 1) (omega (arith, m))))))
  | inr m ↦ (
      let n = length-lowest parent in
      get_or_at (lowest_first parent) (b ∷ parent) [] d i (omega (arith, m, n, l))
      ∙ sym (cond-true (nat_lt (length parent) (i + 1)) (b ∷ parent) (beginning (i + 1) parent)
      (lt-ltb (length parent) (i + 1) (omega (arith, l, m)))))
]

pub digests-none : (x : Branch) (n : ℕ) → n ≡ 0 → [] ≡ map digest_of (take n (lowest_first x))
digests-none x n e = ap (λ (k : ℕ). map digest_of (take k (lowest_first x))) (sym e)

-- one more
pub digests-next : (x : Branch) (ds : List Bytes) (i : ℕ) (d : Bytes) → i < length x → d ≡ digest_of (beginning (i + 1) x)
    → ds ≡ map digest_of (take i (lowest_first x)) → ds ++ d ∷ [] ≡ map digest_of (take (i + 1) (lowest_first x))
digests-next x ds i d l is h =
    let n = length-lowest x in
    ap (λ (ys : List Bytes). ys ++ d ∷ []) h
    ∙ (ap (λ (y : Bytes). map digest_of (take i (lowest_first x)) ++ y ∷ [])
    (is ∙ ap digest_of (sym (lowest-at x i [] l)))
    ∙ (sym (map-append digest_of (take i (lowest_first x)) (slice_index_or (lowest_first x) i [] ∷ []))
    ∙ ap (λ (ys : List Branch). map digest_of ys) (sym (take_more (lowest_first x) i [] (omega (arith, l, n))))))

pub digests-all : (x : Branch) (ds : List Bytes) (i : ℕ) → length x ≤ i → ds ≡ map digest_of (take i (lowest_first x))
    → ds ≡ map digest_of (lowest_first x)
digests-all x ds i l h =
    let n = length-lowest x in h ∙ ap (λ (ys : List Branch). map digest_of ys) (take_all i (lowest_first x) (omega (arith, l, n)))
