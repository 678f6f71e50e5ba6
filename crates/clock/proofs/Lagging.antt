-- The laws of the rule.
use Rattle.std.proofs.Common.{ℕ, ◌&&◌, ◌+◌, ◌*◌, ◌/◌, ◌-◌, ◌^◌, ◌≤◌, ◌==◌, Bool, true, false, not, cond, max, min}
use Rattle.std.proofs.Common.{[], ◌∷◌, arith, inl, inr, le_trans, nat_le, ◌≡◌, refl, sym, subst, ◌∙◌}
use Rattle.std.proofs.lemmas.Bool.{and_parts, and_from, or_cases, or_left, or_right, cond_both, cond-true, cond-false, leb-true, leb-false}
use Rattle.std.proofs.lemmas.Bool.{le-leb, eq-eqb, not-true, not_from_true}
use Rattle.std.proofs.Math.Nat.{div-le_self, min-le_left, min-le_right, min-eq_left, min-eq_right, le-min, le-max_left, le-max_right, max-le, mul-le-mul_left}
use Rattle.ids.specs.Sizes.{Sizes}
use Rattle.clock.specs.declared.watch.Pulse.{Pulse}
use Rattle.clock.specs.declared.watch.Watch.{Watch}
use Rattle.tuning.specs.declared.clocks.TheConstants.{SPENT_PART}
use Rattle.clock.specs.Watching.{borne_by, counted, is_calm, is_due, is_overdue, is_spent, is_stuck, lags, limit_after}
use Rattle.clock.specs.Watching.{limit_of, limit_where, moved, silence_after, slack_after, slow_after, stuck_after, vain_after}
use Rattle.clock.specs.Laws.{Looks, watched, lagged, lagged_on, most_silent, silent, EndsSilences, IsEarned, IsGiven, IsOwed, IsPatient, IsSlack}

-- a count that grew by three times the time is no more than three times all of it
added-most : (count passed k most : ℕ) → count ≤ 3 * k → min (count + min (passed * 3) most) most ≤ 3 * (k + passed)
added-most count passed k most h =
    let a = min-le_left (count + min (passed * 3) most) most in
    let b = min-le_left (passed * 3) most in omega (arith, a, b, h)

-- three times the time is as much as the count, at most
slow-most : (w : Watch) (now : ℕ) (p : Pulse) (k : ℕ) → w.slow ≤ 3 * k
    → slow_after w now p ≤ 3 * (k + (now - w.looked))
slow-most w now p k h =
    cond_both (not (p.view == w.view)) 0 _ (λ (n : ℕ). n ≤ 3 * (k + (now - w.looked)))
    (λ t. omega arith)
    (λ f. cond_both (lags w now p) _ _ (λ (n : ℕ). n ≤ 3 * (k + (now - w.looked)))
    (λ t. added-most w.slow (now - w.looked) k (2 ^ 64 - 1) h)
    (λ t. omega (arith, h)))

-- one look more, by what is found: a new view, a timeout that is due, and lagging; and what is left where it doesn't lag
slow-step : (new due lag : Bool) (slow passed k left kept most : ℕ) → slow ≤ 3 * k → left ≤ 3 * kept
    → cond due 0 (cond new 0 (cond lag (min (slow + min (passed * 3) most) most) left))
    ≤ 3 * cond new 0 (cond due 0 (cond lag (k + passed) kept))
slow-step true true lag slow passed k left kept most h l = omega arith
slow-step true false lag slow passed k left kept most h l = omega arith
slow-step false true lag slow passed k left kept most h l = omega arith
slow-step false false true slow passed k left kept most h l = added-most slow passed k most h
slow-step false false false slow passed k left kept most h l = l

-- what is remembered counts no more than three times the time that it lagged
slow-lagged : (config : Sizes) (times : ℕ) (looks : Looks) → (watched config times looks).slow ≤ 3 * lagged config times looks
unfolding watched lagged
slow-lagged config times [] = omega arith
slow-lagged config times (x ∷ earlier) =
    let w = watched config times earlier in
    slow-step (not (x.1.view == w.view)) (is_due w x.0 x.1) (lags w x.0 x.1) w.slow (x.0 - w.looked)
    (lagged config times earlier) (w.slow - (x.0 - w.looked)) (lagged config times earlier) (2 ^ 64 - 1)
    (slow-lagged config times earlier) (omega (arith, slow-lagged config times earlier))

-- nor what is remembered of its silence
stuck-silent : (config : Sizes) (times : ℕ) (looks : Looks) → (watched config times looks).stuck ≤ 3 * silent config times looks
unfolding watched silent
stuck-silent config times [] = omega arith
stuck-silent config times (x ∷ earlier) =
    let w = watched config times earlier in
    slow-step false (is_due w x.0 x.1) (is_stuck w x.0 x.1) w.stuck (x.0 - w.looked)
    (silent config times earlier) 0 0 (2 ^ 64 - 1) (stuck-silent config times earlier) (omega arith)

-- with the look at this moment
stuck-most : (w : Watch) (now : ℕ) (p : Pulse) (k : ℕ) → w.stuck ≤ 3 * k → stuck_after w now p ≤ 3 * (k + (now - w.looked))
stuck-most w now p k h =
    cond_both (is_stuck w now p) _ 0 (λ (n : ℕ). n ≤ 3 * (k + (now - w.looked)))
    (λ t. added-most w.stuck (now - w.looked) k (2 ^ 64 - 1) h)
    (λ f. omega arith)

pub is-earned : IsEarned
is-earned config times earlier now p due =
    let w = watched config times earlier in
    let k = slow-most w now p (lagged config times earlier) (slow-lagged config times earlier) in
    let s = stuck-most w now p (silent config times earlier) (stuck-silent config times earlier) in
    elim (or_cases _ _ due) [
      | inr c ↦ inr (inr c)
      | inl ends ↦ (elim (or_cases _ _ ends) [
        | inl over ↦ (
            let parts = and_parts (lags w now p) (nat_le (limit_after w now p) (slow_after w now p)) over in
            inl (le_trans (leb-true (limit_after w now p) (slow_after w now p) parts.1) k))
        | inr quiet ↦ (
            let parts = and_parts (is_stuck w now p) (nat_le (silence_after w now p) (stuck_after w now p)) quiet in
            inr (inl (le_trans (leb-true (silence_after w now p) (stuck_after w now p) parts.1) s)))
      ])
    ]

-- what a sum comes to, where it stops at the greatest number, is at least the sum so far and what is added
most-added : (a b s most : ℕ) → min a most ≤ s → min (a + b) most ≤ min (s + min b most) most
most-added a b s most h =
    le-min (added (nat_le b most) refl) (min-le_right (a + b) most)
  where
    sum-within : min (a + b) most ≤ a + b
    sum-within = min-le_left (a + b) most

    stops : min (a + b) most ≤ most
    stops = min-le_right (a + b) most

    small : (t : Bool) → nat_le a most ≡ t → min (a + b) most ≤ s + b
    small true e =
        let k = min-eq_left (leb-true a most e) in omega (arith, h, k, sum-within)
    small false e =
        let l : most ≤ a = omega (arith, leb-false a most e) in
        let k = min-eq_right l in omega (arith, h, k, stops)

    added : (t : Bool) → nat_le b most ≡ t → min (a + b) most ≤ s + min b most
    added true e = let k = min-eq_left (leb-true b most e) in
        let l = small (nat_le a most) refl in omega (arith, k, l)
    added false e = let l : most ≤ b = omega (arith, leb-false b most e) in
        let k = min-eq_right l in omega (arith, k, stops)

-- one look more, by what is found
on-step : (new due lag : Bool) (slow passed k left most : ℕ) → min (3 * k) most ≤ slow
    → min (3 * cond new 0 (cond due 0 (cond lag (k + passed) 0))) most
    ≤ cond due 0 (cond new 0 (cond lag (min (slow + min (passed * 3) most) most) left))
on-step true true lag slow passed k left most h = omega arith
on-step true false lag slow passed k left most h = omega arith
on-step false true lag slow passed k left most h = omega arith
on-step false false true slow passed k left most h =
    let same : 3 * (k + passed) ≡ 3 * k + passed * 3 = omega arith in
    subst (λ (n : ℕ). min n most ≤ min (slow + min (passed * 3) most) most) (sym same)
    (most-added (3 * k) (passed * 3) slow most h)
on-step false false false slow passed k left most h = omega arith

-- what is remembered counts three times the time in which it lagged at each look
slow-on : (config : Sizes) (times : ℕ) (looks : Looks)
    → min (3 * lagged_on config times looks) (2 ^ 64 - 1) ≤ (watched config times looks).slow
unfolding watched lagged_on
slow-on config times [] = omega arith
slow-on config times (x ∷ earlier) =
    let w = watched config times earlier in
    on-step (not (x.1.view == w.view)) (is_due w x.0 x.1) (lags w x.0 x.1) w.slow (x.0 - w.looked)
    (lagged_on config times earlier) (w.slow - (x.0 - w.looked)) (2 ^ 64 - 1) (slow-on config times earlier)

-- and of its silence
stuck-on : (config : Sizes) (times : ℕ) (looks : Looks)
    → min (3 * silent config times looks) (2 ^ 64 - 1) ≤ (watched config times looks).stuck
unfolding watched silent
stuck-on config times [] = omega arith
stuck-on config times (x ∷ earlier) =
    let w = watched config times earlier in
    on-step false (is_due w x.0 x.1) (is_stuck w x.0 x.1) w.stuck (x.0 - w.looked)
    (silent config times earlier) 0 (2 ^ 64 - 1) (stuck-on config times earlier)

-- a limit is no more than what it is a part of, and a number of the machine
limit-most : (w : Watch) (vain times : ℕ) (p : Pulse)
    → limit_where w vain times p ≤ min (limit_of w.limit (counted w vain p) * times) (2 ^ 64 - 1)
limit-most w vain times p =
    let limit = min (limit_of w.limit (counted w vain p) * times) (2 ^ 64 - 1) in
    cond_both (is_spent p.view p.height p.voted) (limit / SPENT_PART) limit (λ (n : ℕ). n ≤ limit)
    (λ t. div-le_self limit SPENT_PART) (λ f. omega arith)

-- a limit within three times the time is within the count that grew by it
reached : (k count passed limit most : ℕ) → min (3 * k) most ≤ count → limit ≤ 3 * (k + passed) → limit ≤ most
    → limit ≤ min (count + min (passed * 3) most) most
reached k count passed limit most h within machine =
    let sum : 3 * (k + passed) ≡ 3 * k + passed * 3 = omega arith in
    le_trans (subst (λ (n : ℕ). limit ≤ min n most) sum (le-min {b = most} within machine))
    (most-added (3 * k) (passed * 3) count most h)

pub is-given : IsGiven
is-given config times earlier now p same l h =
    let w = watched config times earlier in
    let most = 2 ^ 64 - 1 in
    let passed = now - w.looked in
    let seen : slow_after w now p ≡ min (w.slow + min (passed * 3) most) most =
    cond-false _ _ _ (not_from_true _ (eq-eqb _ _ same)) ∙ cond-true _ _ _ l in
    let machine = le_trans (limit-most w (vain_after w now p) (borne_by w (slack_after w now p)) p) (min-le_right _ most) in
    or_left _ _ (or_left _ _ (and_from _ _ l (le-leb _ _
    (subst (λ (n : ℕ). limit_after w now p ≤ n) (sym seen)
    (reached (lagged_on config times earlier) w.slow passed (limit_after w now p) most (slow-on config times earlier) h machine)))))

pub is-patient : IsPatient
unfolding watched
is-patient config times [] = omega arith
is-patient config times (x ∷ earlier) =
    let w = watched config times earlier in
    let old = is-patient config times earlier in
    cond_both (moved w x.1) _ _ (λ (n : ℕ). 20 ≤ n)
    (λ t. omega arith)
    (λ f. cond_both (is_overdue w x.0 x.1) _ _ (λ (n : ℕ). 20 ≤ n)
    (λ t. omega (arith, old)) (λ t. old))

-- one look more keeps it within the least and the most
slack-within : (w : Watch) (now : ℕ) (p : Pulse) → IsSlack w.slack → IsSlack (slack_after w now p)
slack-within w now p h =
    cond_both (p.view == w.view) _ _ IsSlack
    (λ t. cond_both (is_calm w now) _ _ IsSlack
    (λ c. (omega (arith, h.0, h.1), omega (arith, h.0, h.1))) (λ c. h))
    (λ f. cond_both w.served _ _ IsSlack
    (λ c. (omega (arith, h.0, h.1), omega (arith, h.0, h.1))) (λ c. h))

pub is-owed : IsOwed
unfolding watched
is-owed config times [] = (omega arith, omega arith)
is-owed config times (x ∷ earlier) =
    slack-within (watched config times earlier) x.0 x.1 (is-owed config times earlier)

-- a limit so many times, where that is no more than so many
times-most : (w : Watch) (vain times most : ℕ) (p : Pulse) → times ≤ most
    → limit_where w vain times p ≤ min (limit_of w.limit (counted w vain p) * most) (2 ^ 64 - 1)
times-most w vain times most p few =
    let limit = limit_of w.limit (counted w vain p) in
    let part = limit-most w vain times p in
    le-min {b = 2 ^ 64 - 1}
    (le_trans (le_trans part (min-le_left (limit * times) (2 ^ 64 - 1))) (mul-le-mul_left limit few))
    (le_trans part (min-le_right (limit * times) (2 ^ 64 - 1)))

-- how much it may lag while nothing is executed, at most
silent-most : (w : Watch) (now : ℕ) (p : Pulse) → IsSlack (slack_after w now p)
    → silence_after w now p ≤ min (most_silent w now p) (2 ^ 64 - 1)
silent-most w now p within =
    cond_both (w.served && not p.passed) (max least more) least (λ (n : ℕ). n ≤ min (max first second) most)
    (λ t. max-le is-least (is-more (not-true p.passed (and_parts _ _ t).1))) (λ f. is-least)
  where
    most : ℕ
    most = 2 ^ 64 - 1

    times : ℕ
    times = slack_after w now p

    vain : ℕ
    vain = vain_after w now p

    least : ℕ
    least = limit_where w vain (min times 2) p

    more : ℕ
    more = limit_where w 0 times p

    first : ℕ
    first = limit_of w.limit (counted w vain p) * 2

    all : ℕ
    all = limit_of w.limit (counted w 0 p) * 16

    second : ℕ
    second = cond p.passed 0 all

    is-least : least ≤ min (max first second) most
    is-least =
        let part = times-most w vain (min times 2) 2 p (min-le_right times 2) in
        le-min {b = most} (le_trans (le_trans part (min-le_left first most)) (le-max_left first second))
        (le_trans part (min-le_right first most))

    is-more : p.passed ≡ false → more ≤ min (max first second) most
    is-more unpassed =
        let part = times-most w 0 times 16 p within.1 in
        let there = subst (λ (n : ℕ). all ≤ n) (sym (cond-false p.passed 0 all unpassed)) (omega arith) in
        le-min {b = most}
        (le_trans (le_trans part (min-le_left all most)) (le_trans there (le-max_right first second)))
        (le_trans part (min-le_right all most))

pub ends-silences : EndsSilences
ends-silences config times earlier now p stuck h =
    let w = watched config times earlier in
    let most = 2 ^ 64 - 1 in
    let passed = now - w.looked in
    let seen : stuck_after w now p ≡ min (w.stuck + min (passed * 3) most) most = cond-true _ _ _ stuck in
    let part = silent-most w now p (slack-within w now p (is-owed config times earlier)) in
    let within = le_trans (le_trans part (min-le_left (most_silent w now p) most)) h in
    let machine = le_trans part (min-le_right (most_silent w now p) most) in
    or_left _ _ (or_right _ _ (and_from _ _ stuck (le-leb _ _
    (subst (λ (n : ℕ). silence_after w now p ≤ n) (sym seen)
    (reached (silent config times earlier) w.stuck passed (silence_after w now p) most (stuck-on config times earlier) within machine)))))
