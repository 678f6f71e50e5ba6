-- Greatest fronts, of anything that moves by a rule that more of the others' steps keep.
use Rattle.std.proofs.Common.{ℕ, zero, suc, ◌≡◌, ◌+◌, ◌<◌, ◌≤◌, ◌⊎◌, Bool, true, false, [], ◌∷◌, refl, sym}
use Rattle.std.proofs.Common.{ap, subst, ◌∙◌, arith, inl, inr}
use Rattle.std.proofs.lemmas.Bool.{cond_both, cases_Bool, cases_lt, cases_eq, eqb-true, eqb-false, both_ways}
use lib.Dec.{eqb}
use Rattle.definitions.specs.Audit.{Cut, Turns, steps_in, AreAllowed, IsGreatest}
use Rattle.audit_ground.specs.Law.{IsReached, IsMoved}

-- no counter of the one is above that of the other
abbrev pub Under : Cut → Cut → Type 0
Under m k = (i : ℕ) → m i ≤ k i

-- more steps of the others keep the rule
abbrev pub IsGrowing : (Cut → ℕ → Bool) → Type 0
IsGrowing may = (m k : Cut) (u : ℕ) → Under m k → m u ≡ k u → may m u ≡ true → may k u ≡ true

-- a turn counts for its own replica
pub steps_in-own : (u : ℕ) (earlier : Turns) → steps_in (u ∷ earlier) u ≡ suc (steps_in earlier u)
unfolding steps_in
steps_in-own u earlier = cond_both (eqb u u) (suc (steps_in earlier u)) (steps_in earlier u)
    (λ x. x ≡ suc (steps_in earlier u)) (λ e. refl) (λ e. absurd (eqb-false u u e refl))

-- and for no other
pub steps_in-other : (u i : ℕ) (earlier : Turns) → (u ≡ i → ⊥) → steps_in (u ∷ earlier) i ≡ steps_in earlier i
unfolding steps_in
steps_in-other u i earlier n =
    cond_both (eqb u i) (suc (steps_in earlier i)) (steps_in earlier i) (λ x. x ≡ steps_in earlier i)
    (λ e. absurd (n (eqb-true u i e))) (λ e. refl)

-- an allowed turn under a cut from which none may move stays under it
under-step : (may : Cut → ℕ → Bool) → IsGrowing may → (k : Cut) → ((u : ℕ) → may k u ≡ false)
    → (u : ℕ) (m : Cut) → may m u ≡ true → Under m k → suc (m u) ≤ k u
under-step may grow k stuck u m h below =
    elim (cases_lt (m u) (k u)) [
      | inl l ↦ l
      | inr g ↦
          let b : m u ≤ k u = below u in
          let e : m u ≡ k u = omega arith in
          absurd (both_ways (may k u) (stuck u) (grow m k u below e h))
    ]

-- turns never pass a cut from which none may move
pub turns-under : (may : Cut → ℕ → Bool) → IsGrowing may → (k : Cut) → ((u : ℕ) → may k u ≡ false)
    → (turns : Turns) → AreAllowed may turns → Under (steps_in turns) k
unfolding steps_in
turns-under may grow k stuck [] a i = omega arith
turns-under may grow k stuck (u ∷ earlier) a i =
    let below : Under (steps_in earlier) k = turns-under may grow k stuck earlier a.1 in
    let up : suc (steps_in earlier u) ≤ k u = under-step may grow k stuck u (steps_in earlier) a.0 below in
    cond_both (eqb u i) (suc (steps_in earlier i)) (steps_in earlier i) (λ x. x ≤ k i)
    (λ e. subst (λ (j : ℕ). suc (steps_in earlier j) ≤ k j) (eqb-true u i e) up)
    (λ e. below i)

-- ---- the greatest cut exists

-- f summed over the numbers below n
abbrev pub sum_below : ℕ → Cut → ℕ
sum_below zero f = 0
sum_below (suc n) f = f n + sum_below n f

-- of counters none of which is above the other's the sum is no greater
pub sum_below-under : (n : ℕ) (f g : Cut) → Under f g → sum_below n f ≤ sum_below n g
sum_below-under zero f g h = omega arith
sum_below-under (suc n) f g h = let a = h n in let b = sum_below-under n f g h in omega (arith, a, b)

-- and where one is below, it is less
pub sum_below-strict : (n : ℕ) (f g : Cut) (u : ℕ) → Under f g → u < n → f u < g u
    → sum_below n f < sum_below n g
sum_below-strict zero f g u h l s = absurd (omega arith)
sum_below-strict (suc n) f g u h l s =
    elim (cases_lt u n) [
      | inl k ↦ let a = h n in let b = sum_below-strict n f g u h k s in omega (arith, a, b)
      | inr k ↦
          let e : u ≡ n = omega arith in
          let a : f n < g n = subst (λ (j : ℕ). f j < g j) e s in
          let b = sum_below-under n f g h in omega (arith, a, b)
    ]

-- some number below n that may move, or none
pub some-mover : (p : ℕ → Bool) (n : ℕ) → ((u : ℕ) × (u < n) × (p u ≡ true)) ⊎ ((u : ℕ) → u < n → p u ≡ false)
some-mover p zero = inr (λ u l. absurd (omega arith))
some-mover p (suc n) =
    elim (cases_Bool (p n)) [
      | inl t ↦ inl (n, omega arith, t)
      | inr f ↦ elim (some-mover p n) [
        | inl r ↦ inl (r.0, (let l = r.1 in omega (arith, l)), r.2)
        | inr none ↦ inr (λ u l. elim (cases_lt u n) [
          | inl k ↦ none u k
          | inr k ↦ subst (λ (j : ℕ). p j ≡ false) (let e : n ≡ u = omega arith in e) f
        ])
      ]
    ]

-- turns after which none may move any more
pub record IsStuck (may : Cut → ℕ → Bool) : Type 0 where
  pub turns : Turns
  pub allowed : AreAllowed may turns
  pub stuck : (u : ℕ) → may (steps_in turns) u ≡ false

-- only the first few may move, and none past its most
pub record IsBounded (may : Cut → ℕ → Bool) (n : ℕ) (most : Cut) : Type 0 where
  pub few : (m : Cut) (u : ℕ) → may m u ≡ true → u < n
  pub short : (m : Cut) (u : ℕ) → may m u ≡ true → m u < most u

-- turns never go past the most
pub turns-short : (may : Cut → ℕ → Bool) (n : ℕ) (most : Cut) → IsBounded may n most → (turns : Turns)
    → AreAllowed may turns → Under (steps_in turns) most
unfolding steps_in
turns-short may n most b [] a i = omega arith
turns-short may n most b (u ∷ earlier) a i =
    let below : Under (steps_in earlier) most = turns-short may n most b earlier a.1 in
    let up : suc (steps_in earlier u) ≤ most u = b.short (steps_in earlier) u a.0 in
    cond_both (eqb u i) (suc (steps_in earlier i)) (steps_in earlier i) (λ x. x ≤ most i)
    (λ e. subst (λ (j : ℕ). suc (steps_in earlier j) ≤ most j) (eqb-true u i e) up)
    (λ e. below i)

-- a turn takes no counter back
more-step : (u i : ℕ) (earlier : Turns) → steps_in earlier i ≤ steps_in (u ∷ earlier) i
unfolding steps_in
more-step u i earlier = cond_both (eqb u i) (suc (steps_in earlier i)) (steps_in earlier i)
    (λ x. steps_in earlier i ≤ x) (λ e. omega arith) (λ e. omega arith)

-- what is left falls with each turn
fuel-step : (n : ℕ) (most : Cut) (u : ℕ) (turns : Turns) (fuel : ℕ) → u < n
    → sum_below n most ≤ suc fuel + sum_below n (steps_in turns)
    → sum_below n most ≤ fuel + sum_below n (steps_in (u ∷ turns))
fuel-step n most u turns fuel l h =
    let s : steps_in turns u < steps_in (u ∷ turns) u = let e = steps_in-own u turns in omega (arith, e) in
    let r = sum_below-strict n (steps_in turns) (steps_in (u ∷ turns)) u (λ i. more-step u i turns) l s in
    omega (arith, r)

-- moving while some may ends
run : (may : Cut → ℕ → Bool) (n : ℕ) (most : Cut) → IsBounded may n most → (fuel : ℕ) (turns : Turns)
    → AreAllowed may turns → sum_below n most ≤ fuel + sum_below n (steps_in turns) → IsStuck may
run may n most b zero turns a h =
    record {
      turns = turns;
      allowed = a;
      stuck = λ u. elim (cases_Bool (may (steps_in turns) u)) [
        | inl t ↦
            let r = sum_below-strict n (steps_in turns) most u (turns-short may n most b turns a)
            (b.few (steps_in turns) u t) (b.short (steps_in turns) u t) in
            absurd (omega (arith, r))
        | inr f ↦ f
      ];
    }
run may n most b (suc fuel) turns a h =
    elim (some-mover (may (steps_in turns)) n) [
      | inl r ↦ run may n most b fuel (r.0 ∷ turns) (r.2, a) (fuel-step n most r.0 turns fuel r.1 h)
      | inr none ↦ record {
        turns = turns;
        allowed = a;
        stuck = λ u. elim (cases_Bool (may (steps_in turns) u))
            [ inl t ↦ none u (b.few (steps_in turns) u t) | inr f ↦ f ];
      }
    ]

-- some turns lead to where none may move
pub stuck-exists : (may : Cut → ℕ → Bool) (n : ℕ) (most : Cut) → IsBounded may n most → IsStuck may
unfolding steps_in
stuck-exists may n most b = run may n most b (sum_below n most) [] tt (omega arith)

-- ---- what the greatest cut is

-- a cut that is reached, and from which none may move, is the greatest
pub greatest-from_stuck : (may : Cut → ℕ → Bool) → IsGrowing may → (k : Cut) → IsReached may k
    → ((u : ℕ) → may k u ≡ false) → IsGreatest may k
greatest-from_stuck may grow k r stuck =
    record {
      turns = r.turns;
      allowed = r.allowed;
      reached = r.reached;
      greatest = λ other o. turns-under may grow k stuck other o;
    }

-- there is one greatest cut
pub greatest-one : (may : Cut → ℕ → Bool) (k m : Cut) → IsGreatest may k → IsGreatest may m → (i : ℕ)
    → k i ≡ m i
greatest-one may k m f g i =
    let a = f.greatest g.turns g.allowed i in
    let b = g.greatest f.turns f.allowed i in
    let c = f.reached i in
    let d = g.reached i in
    omega (arith, a, b, c, d)

-- none may move from it
pub greatest-stuck : (may : Cut → ℕ → Bool) → IsGrowing may → (k : Cut) → IsGreatest may k → (u : ℕ)
    → may k u ≡ false
greatest-stuck may grow k f u =
    elim (cases_Bool (may k u)) [
      | inl t ↦
          let same : k u ≡ steps_in f.turns u = sym (f.reached u) in
          let move : may (steps_in f.turns) u ≡ true =
          grow k (steps_in f.turns) u (λ i. (let e = f.reached i in omega (arith, e))) same t in
          let more = f.greatest (u ∷ f.turns) (move, f.allowed) u in
          let own = steps_in-own u f.turns in
          absurd (omega (arith, more, own, same))
      | inr e ↦ e
    ]

-- ---- cuts that are reached

-- the cut of no steps is
pub reached-start : (may : Cut → ℕ → Bool) (k : Cut) → ((i : ℕ) → k i ≡ 0) → IsReached may k
unfolding steps_in
reached-start may k none = record { turns = []; allowed = tt; reached = λ i. sym (none i) }

-- so is a reached cut with one more step that was allowed
pub reached-moved : (may : Cut → ℕ → Bool) → IsGrowing may → (k next : Cut) (u : ℕ) → IsReached may k
    → may k u ≡ true → IsMoved u k next → IsReached may next
reached-moved may grow k next u r h m = record {
  turns = u ∷ r.turns;
  allowed = (
    grow k (steps_in r.turns) u (λ i. (let e = r.reached i in omega (arith, e))) (sym (r.reached u)) h,
    r.allowed,
  );
  reached = λ i. elim (cases_eq u i) [
    | inl e ↦ subst (λ (j : ℕ). steps_in (u ∷ r.turns) j ≡ next j) e
        (steps_in-own u r.turns ∙ (ap suc (r.reached u) ∙ sym m.own))
    | inr n ↦ steps_in-other u i r.turns n ∙ (r.reached i ∙ sym (m.others i n))
  ];
}

-- it does not go past the most
pub reached-short : (may : Cut → ℕ → Bool) (n : ℕ) (most : Cut) → IsBounded may n most → (k : Cut)
    → IsReached may k → Under k most
reached-short may n most b k r i =
    let a = turns-short may n most b r.turns r.allowed i in
    let e = r.reached i in
    omega (arith, a, e)
