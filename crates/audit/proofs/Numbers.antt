-- The numbers of replicas that are handed in.
use Rattle.std.proofs.Common.{◌≡◌, ◌≢◌, ◌<◌, ◌↔◌, ◌+◌, ◌-◌, ℕ, suc, List, ◌∷◌, length, take, drop, get_or, sym, ap}
use Rattle.std.proofs.Common.{subst, ◌∙◌, add-one, drop-cons}
use Rattle.std.specs.Borrow.{Bor}
use Rattle.std.specs.List.{All}
use Rattle.std.proofs.lemmas.List.{take_rest}
use Rattle.definitions.specs.Lists.{Among, AreDistinct}
use Rattle.definitions.specs.Audit.{Member}
use Rattle.definitions.proofs.Lists.{Among-map, Among-mapped}
use Rattle.audit_ground.specs.Law.{numbers}
use Rattle.replica.specs.Steps.{Held}
use Rattle.audit.specs.Judged.{member_of, judged_by}
use Rattle.audit.proofs.Lists.{each-holds, All-from_each}

-- the element at a place and those behind it
pub drop-at : {A : Type 0} (xs : List A) (i : ℕ) (x : A) → i < length xs → x ≡ get_or xs i x
    → drop i xs ≡ x ∷ drop (i + 1) xs
drop-at {A} xs i x l e = rw add-one (drop-cons xs i x l ∙ ap (λ (y : A). y ∷ drop (suc i) xs) (sym e))

-- from here on: replicas, by what they hold
module _ {T : Type 0} (held : T → Held) where
  -- none of the replicas has the number
  abbrev IsFree : ℕ → List (Bor T) → Type 0
  IsFree n rs = All (λ r. (held r.now).keys.party ≢ n) rs

  -- it is none of theirs
  free-from : (rs : List (Bor T)) (n : ℕ) → (Among n (numbers (judged_by held rs)) → ⊥) → IsFree n rs
  free-from rs n none = All-from_each (λ (r : Bor T). (held r.now).keys.party ≢ n) rs (λ r m p.
      none (subst (λ (k : ℕ). Among k (numbers (judged_by held rs))) p
      (Among-mapped (λ (k : Member). k.number) (judged_by held rs) (member_of (held r.now))
      (Among-mapped (λ (x : Bor T). member_of (held x.now)) rs r m))))

  -- and back
  none-from : (rs : List (Bor T)) (n : ℕ) → IsFree n rs → Among n (numbers (judged_by held rs)) → ⊥
  none-from rs n free m =
      let k = Among-map (λ (k : Member). k.number) (judged_by held rs) n m in
      let r = Among-map (λ (x : Bor T). member_of (held x.now)) rs k.0 k.1 in
      each-holds (λ (x : Bor T). (held x.now).keys.party ≢ n) rs free r.0 r.1
      (sym (k.2 ∙ ap (λ (x : Member). x.number) r.2))

  -- those behind a place, as the slice's range has them
  abbrev pub behind : ℕ → List (Bor T) → List (Bor T)
  behind i rs = take (length rs - (i + 1)) (drop (i + 1) rs)

  -- no two have one number
  abbrev NumbersAreDistinct : List (Bor T) → Type 0
  NumbersAreDistinct rs = AreDistinct (numbers (judged_by held rs))

  -- that is so exactly where it is of those from this place on
  abbrev pub AreDistinctFrom : ℕ → List (Bor T) → Type 0
  AreDistinctFrom i rs = NumbersAreDistinct rs ↔ NumbersAreDistinct (drop i rs)

  -- if no later one has the number at this place, they are so at the next
  pub AreDistinctFrom-next : (rs : List (Bor T)) (i : ℕ) (r : Bor T) (n : ℕ) → i < length rs
      → r ≡ get_or rs i r → n ≡ (held r.now).keys.party → IsFree n (behind i rs) → AreDistinctFrom i rs
      → AreDistinctFrom (i + 1) rs
  AreDistinctFrom-next rs i r n l e p free h =
      let split = drop-at rs i r l e in
      let last : Among (held r.now).keys.party (numbers (judged_by held (drop (i + 1) rs))) → ⊥ =
      subst (λ (k : ℕ). Among k (numbers (judged_by held (drop (i + 1) rs))) → ⊥) p
      (none-from (drop (i + 1) rs) n (subst (IsFree n) (take_rest rs (i + 1)) free)) in (
        λ d. (subst NumbersAreDistinct split (h.0 d)).1,
        λ d. h.1 (subst NumbersAreDistinct (sym split) (last, d)),
      )

  -- if they are distinct, no later one has it
  pub free-from_distinct : (rs : List (Bor T)) (i : ℕ) (r : Bor T) (n : ℕ) → i < length rs
      → r ≡ get_or rs i r → n ≡ (held r.now).keys.party → AreDistinctFrom i rs → NumbersAreDistinct rs
      → IsFree n (behind i rs)
  free-from_distinct rs i r n l e p h d =
      subst (IsFree n) (sym (take_rest rs (i + 1)))
      (free-from (drop (i + 1) rs) n
      (subst (λ (k : ℕ). Among k (numbers (judged_by held (drop (i + 1) rs))) → ⊥) (sym p)
      (subst NumbersAreDistinct (drop-at rs i r l e) (h.0 d)).0))
