-- Tries of a request, one more, and how many are left.
use Rattle.std.proofs.Common.{ℕ, ◌+◌, ◌-◌, ◌^◌, ◌<◌, ◌≤◌, ◌==◌, min, Bool, true, false, if◌then◌else◌, ◌≡◌}
use Rattle.std.proofs.Common.{◌⊎◌, inl, inr, List, [], ◌∷◌, ◌++◌, length, map, None, refl, sym}
use Rattle.std.proofs.Common.{◌∙◌, ap, subst, arith, append_assoc}
use Rattle.std.specs.List.{flat_map}
use Rattle.std.proofs.lemmas.Grind.{flat_map-append}
use Rattle.std.proofs.lemmas.List.{append-nil, length-append}
use Rattle.std.proofs.lemmas.Bool.{cases_lt}
use Rattle.std.proofs.lemmas.Bool.Decides.{eqb_tells}
use Rattle.definitions.specs.Bytes.{Bytes}
use Rattle.client_accept.specs.Sessions.{Held}
use Rattle.client_service.specs.Links.{Traffic, sent, came, silent, looked, Passes, Goes}
use Rattle.client_service.specs.Calls.{Try, ended_by, try_traffic, ClosedFor, GivesUp, Listens}
use Rattle.client_service.proofs.Traffic.{goes_both, goes_one}

-- ---- listening

quiet_by : (b : Bool) → b ≡ false → (if b then [] else silent ∷ []) ≡ silent ∷ []
quiet_by true e = absurd cc
quiet_by false e = refl

map_more : (heard : List Bytes) (bytes : Bytes)
    → map came (heard ++ bytes ∷ []) ≡ map came heard ++ came bytes ∷ []
map_more [] bytes = refl
map_more (h ∷ heard) bytes = ap (λ ts. came h ∷ ts) (map_more heard bytes)

-- nothing more came in time
pub listened_out : {L : Type 0} (carries : L → Traffic → L → Type 0) (old mid new : Held × L)
    (heard : List Bytes) → (length heard == (2 ^ 64 - 1)) ≡ false → Goes carries old (map came heard) mid
    → carries mid.1 silent new.1 → new.0 ≡ mid.0 → Listens carries old None new
listened_out carries old mid new heard few goes waits same = (
  heard,
  subst (λ (ts : List Traffic). Goes carries old (map came heard ++ ts) new)
      (sym (quiet_by (length heard == (2 ^ 64 - 1)) few))
      (goes_both carries (map came heard) (silent ∷ []) old mid new goes
      (goes_one carries silent mid new (waits, (refl, same)))),
)

-- one more came, and gave no receipt
pub heard_more : {L : Type 0} (carries : L → Traffic → L → Type 0) (old mid new : Held × L) (n : ℕ)
    (heard : List Bytes) (bytes : Bytes) → length heard ≡ n → Goes carries old (map came heard) mid
    → Passes carries mid (came bytes) None new
    → (more : List Bytes) × (length more ≡ n + 1) × Goes carries old (map came more) new
heard_more carries old mid new n heard bytes many goes passes = (
  heard ++ bytes ∷ [],
  length-append heard (bytes ∷ []) ∙ ap (λ k. k + 1) many,
  subst (λ (ts : List Traffic). Goes carries old ts new) (sym (map_more heard bytes))
      (goes_both carries (map came heard) (came bytes ∷ []) old mid new goes
      (goes_one carries (came bytes) mid new passes)),
)

-- ---- tries

-- a try without a receipt
pub tried : {L : Type 0} (carries : L → Traffic → L → Type 0) (old mid asked new : Held × L)
    (tries : List Try) (frame : Bytes) (open_now : Bool)
    → Goes carries old (flat_map (try_traffic frame) tries) mid → Passes carries mid (sent frame) None asked
    → (listens : Listens carries asked None new) → carries new.1 (looked open_now) new.1
    → Goes carries old
    (flat_map (try_traffic frame) (tries ++ record { heard = listens.0; is_open = open_now } ∷ [])) new
tried carries old mid asked new tries frame open_now before sends (heard, goes) looks =
    let last : Try = record { heard = heard; is_open = open_now } in
    let one : Goes carries mid (try_traffic frame last) new = (
      asked,
      sends,
      subst (λ (ts : List Traffic). Goes carries asked ts new)
          (append_assoc (map came heard) (ended_by heard) (looked open_now ∷ []))
          (goes_both carries (map came heard ++ ended_by heard) (looked open_now ∷ []) asked new new goes
          (goes_one carries (looked open_now) new new (looks, (refl, refl)))),
    ) in
    let all =
    goes_both carries (flat_map (try_traffic frame) tries) (try_traffic frame last) old mid new before one in
    subst (λ (ts : List Traffic). Goes carries old ts new)
    (sym (flat_map-append (try_traffic frame) tries (last ∷ [])
    ∙ ap (λ (ts : List Traffic). flat_map (try_traffic frame) tries ++ ts)
    (append-nil (try_traffic frame last))))
    all

-- so many tries are left
abbrev pub Left : ℕ → List Try → Type 0
Left left tries = (left + length tries ≤ 30)
    × ((left + length tries ≡ 30)
    ⊎ ((late : List Try) × ClosedFor tries late × (left + length late ≡ 2)))

-- ---- how many are left

one_more_many : (tries : List Try) (last : Try) → length (tries ++ last ∷ []) ≡ length tries + 1
one_more_many tries last = length-append tries (last ∷ [])

-- the first try that found the link closed, or one behind it
closed_more : (tries late : List Try) (last : Try) → ClosedFor tries late
    → ClosedFor (tries ++ last ∷ []) (late ++ last ∷ [])
closed_more tries late last (before, closed, is, shut) = (
  before,
  closed,
  ap (λ (ts : List Try). ts ++ last ∷ []) is ∙ append_assoc before (closed ∷ late) (last ∷ []),
  shut,
)

more_by : (b : Bool) (left now : ℕ) (tries : List Try) (last : Try) → last.is_open ≡ b → 0 < left
    → Left left tries → now ≡ (if b then left - 1 else min (left - 1) 2) → Left now (tries ++ last ∷ [])
more_by true left now tries last same some (most, inl all) is =
    let more = one_more_many tries last in (omega arith, inl (omega arith))
more_by true left now tries last same some (most, inr (late, closed, few)) is =
    let more = one_more_many tries last in
    let more_late = one_more_many late last in
    (omega arith, inr (late ++ last ∷ [], closed_more tries late last closed, omega arith))
more_by false left now tries last same some (most, inr (late, closed, few)) is =
    let more = one_more_many tries last in
    let more_late = one_more_many late last in
    (omega arith, inr (late ++ last ∷ [], closed_more tries late last closed, omega arith))
more_by false left now tries last same some (most, inl all) is = by (cases_lt left 4)
  where
    more : length (tries ++ last ∷ []) ≡ length tries + 1
    more = one_more_many tries last

    by : ((left < 4) ⊎ (4 ≤ left)) → Left now (tries ++ last ∷ [])
    by (inl few) = let m = more in (omega arith, inl (omega arith))
    by (inr many) = let m = more in (omega arith, inr ([], (tries, last, refl, same), omega arith))

pub one_try_more : (left now : ℕ) (tries : List Try) (last : Try) → 0 < left → Left left tries
    → now ≡ (if last.is_open then left - 1 else min (left - 1) 2) → Left now (tries ++ last ∷ [])
one_try_more left now tries last some so_far is = more_by last.is_open left now tries last refl some so_far is

pub none_left : (tries : List Try) → Left 0 tries → GivesUp tries
none_left tries (most, inl all) = (omega arith, inl (omega arith))
none_left tries (most, inr (late, closed, few)) = (omega arith, inr (late, closed, omega arith))

-- whether so many came that nobody can count them
pub few_came : (heard : List Bytes) (n : ℕ) → length heard ≡ n → n < 2 ^ 64 - 1
    → (length heard == (2 ^ 64 - 1)) ≡ false
few_came heard n many few = grind (arith, eqb_tells (length heard) (2 ^ 64 - 1))
