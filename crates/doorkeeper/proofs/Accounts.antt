-- Blocks of one height, by who brought them.
use Rattle.std.proofs.Common.{ℕ, zero, suc, ◌≡◌, ◌+◌, ◌*◌, ◌<◌, ◌≤◌, ◌⊎◌, Bool, true, false, List, [], ◌∷◌}
use Rattle.std.proofs.Common.{cond, zero-add, refl, sym, ap, ◌∙◌, inl, inr, arith, ◌==◌, ◌&&◌, nat_lt, subst}
use Rattle.std.proofs.lemmas.Bool.{ltb-true, ltb-false, lt-ltb, le-ltb, eqb-true, eq-eqb, ne_eqb, and_parts}
use Rattle.std.proofs.lemmas.Bool.{and_right, cases_Bool, cond-true, cond-false}
use Rattle.std.proofs.lemmas.List.Sums.{sum_by-cons}
use Rattle.std.specs.List.{count_by}
use Rattle.doorkeeper.specs.declared.brought.Brought.{Brought}
use Rattle.doorkeeper.specs.Doors.{brought, of_height, most_of_each, PassedAll}
use Rattle.doorkeeper.specs.Doors.{FewPass, FewOfHeight, NeverCrowded}
use Rattle.std.proofs.Math.Nat.{mul-div-le, mul-le-mul_left}
use Rattle.std.proofs.lemmas.Nat.{le-div}
use Rattle.std.proofs.Common.{◌/◌}
use Rattle.std.proofs.lemmas.Bool.{and_from}

-- ---- counting

pub count-cons : {A : Type 0} (p : A → Bool) (x : A) (xs : List A)
    → count_by p (x ∷ xs) ≡ cond (p x) 1 0 + count_by p xs
count-cons {A} p x xs = sum_by-cons (λ (y : A). cond (p y) 1 0) x xs

pub count-yes : (p : Brought → Bool) (b : Brought) (taken : List Brought) → p b ≡ true
    → count_by p (b ∷ taken) ≡ 1 + count_by p taken
count-yes p b taken e =
    count-cons p b taken ∙ ap (λ (k : ℕ). k + count_by p taken) (cond-true (p b) 1 0 e)

pub count-no : (p : Brought → Bool) (b : Brought) (taken : List Brought) → p b ≡ false
    → count_by p (b ∷ taken) ≡ count_by p taken
count-no p b taken e =
    count-cons p b taken ∙ (ap (λ (k : ℕ). k + count_by p taken) (cond-false (p b) 1 0 e)
    ∙ zero-add (count_by p taken))

-- whether a block has this height and came from this payer
abbrev pub is_from : (height payer : ℕ) → Brought → Bool
is_from height payer b = (b.height == height) && (b.payer == payer)

-- whether it has this height, and came from a payer below m
abbrev is_below : (height m : ℕ) → Brought → Bool
is_below height m b = (b.height == height) && nat_lt b.payer m

-- how many of this height came from the accounts below m
abbrev of_first : (m height : ℕ) → List Brought → ℕ
of_first m height taken = count_by (is_below height m) taken

-- ---- by accounts

-- a block counts among the accounts up to m where it counts among those below, or came from m
split : (x : Bool) (s m : ℕ)
    → cond (x && nat_lt s (suc m)) 1 0 ≡ cond (x && nat_lt s m) 1 0 + cond (x && (s == m)) 1 0
split false s m = refl
split true s m =
    elim (cases_Bool (nat_lt s m)) [
      | inl l ↦
          (let n : (s == m) ≡ false = ne_eqb s m (λ q. absurd (omega (arith, ltb-true s m l))) in
          let up : nat_lt s (suc m) ≡ true = lt-ltb s (suc m) (omega (arith, ltb-true s m l)) in
          rw (l, n, up) refl)
      | inr g ↦ at (cases_Bool (s == m)) g
    ]
  where
    at : ((s == m) ≡ true) ⊎ ((s == m) ≡ false) → nat_lt s m ≡ false
        → cond (nat_lt s (suc m)) 1 0 ≡ cond (nat_lt s m) 1 0 + cond (s == m) 1 0
    at (inl q) g =
        let up : nat_lt s (suc m) ≡ true = lt-ltb s (suc m) (omega (arith, eqb-true s m q)) in
        rw (g, q, up) refl
    at (inr n) g =
        let up : nat_lt s (suc m) ≡ false =
        le-ltb s (suc m) (above (ltb-false s m g) (λ e. absurd (false≢ (eq-eqb s m e) n))) in
        rw (g, n, up) refl
      where
        false≢ : (s == m) ≡ true → (s == m) ≡ false → ⊥
        false≢ = λ a b. cc

        above : m ≤ s → (s ≡ m → ⊥) → suc m ≤ s
        above l d = omega arith

of_first-suc : (m height : ℕ) (taken : List Brought)
    → of_first (suc m) height taken ≡ of_first m height taken + brought height m taken
of_first-suc m height [] = refl
of_first-suc m height (b ∷ taken) =
    omega (
      arith,
      split (b.height == height) b.payer m,
      of_first-suc m height taken,
      count-cons (is_below height (suc m)) b taken,
      count-cons (is_below height m) b taken,
      count-cons (is_from height m) b taken,
    )

of_first-zero : (height : ℕ) (taken : List Brought) → of_first 0 height taken ≡ 0
of_first-zero height [] = refl
of_first-zero height (b ∷ taken) =
    count-no (is_below height 0) b taken (and_right _ _ (le-ltb b.payer 0 (omega arith)))
    ∙ of_first-zero height taken

-- who brought as many of a height as each may brings no more
pub brought-few : (n height payer : ℕ) (taken : List Brought) → PassedAll n taken
    → brought height payer taken ≤ most_of_each n
brought-few n height payer [] p = omega arith
brought-few n height payer (b ∷ taken) p = elim (cases_Bool (is_from height payer b)) [
  | inl t ↦
      (let parts = and_parts (b.height == height) (b.payer == payer) t in
      let passed = and_parts (nat_lt b.payer n) _ p.0 in
      let below : brought b.height b.payer taken < most_of_each n = ltb-true _ _ passed.1 in
      let here : brought height payer taken < most_of_each n =
      subst (λ (s : ℕ). brought height s taken < most_of_each n) (eqb-true _ _ parts.1)
      (subst (λ (h : ℕ). brought h b.payer taken < most_of_each n) (eqb-true _ _ parts.0) below) in
      omega (arith, count-yes (is_from height payer) b taken t, here))
  | inr f ↦
      omega (arith, count-no (is_from height payer) b taken f, brought-few n height payer taken p.1)
]

-- so many from each of the first m
of_first-few : (most m height : ℕ) (taken : List Brought)
    → ((payer : ℕ) → brought height payer taken ≤ most) → of_first m height taken ≤ m * most
of_first-few most zero height taken few = omega (arith, of_first-zero height taken)
of_first-few most (suc m) height taken few =
    let rest : of_first m height taken ≤ m * most = of_first-few most m height taken few in
    omega (arith, of_first-suc m height taken, rest, few m)

-- all of a height came from some replica
of_height-first : (n height : ℕ) (taken : List Brought) → PassedAll n taken
    → of_height height taken ≡ of_first n height taken
of_height-first n height [] p = refl
of_height-first n height (b ∷ taken) p =
    let l : nat_lt b.payer n ≡ true = (and_parts (nat_lt b.payer n) _ p.0).0 in
    let here : is_below height n b ≡ (b.height == height) = rw l (and_true (b.height == height)) in
    count-cons (λ x. x.height == height) b taken
    ∙ (ap (λ (t : Bool). cond t 1 0 + of_height height taken) (sym here)
    ∙ (ap (λ (k : ℕ). cond (is_below height n b) 1 0 + k) (of_height-first n height taken p.1)
    ∙ sym (count-cons (is_below height n) b taken)))
  where
    and_true : (x : Bool) → (x && true) ≡ x
    and_true true = refl
    and_true false = refl

-- ---- what the rule is for

pub few-of-height : FewOfHeight
few-of-height n height taken p =
    let first : of_first n height taken ≤ n * most_of_each n =
    of_first-few (most_of_each n) n height taken (λ payer. brought-few n height payer taken p) in
    let same = of_height-first n height taken p in omega (arith, same, first)

pub never-crowded : NeverCrowded
never-crowded n height taken p =
    let each : most_of_each n ≤ 63 / n = omega arith in
    let most : n * most_of_each n ≤ n * (63 / n) = mul-le-mul_left n each in
    let all : n * (63 / n) ≤ 63 = mul-div-le 63 n in
    let few = few-of-height n height taken p in omega (arith, few, most, all)

pub few-pass : FewPass
few-pass n b taken low here few =
    let share : 4 ≤ 63 / n = le-div 4 63 n (omega (arith, here)) (omega (arith, low)) in
    let each : brought b.height b.payer taken < most_of_each n = omega (arith, few, share) in
    and_from _ _ (lt-ltb b.payer n here) (lt-ltb _ _ each)
