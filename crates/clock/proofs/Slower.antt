-- What the rule of forgetting is for.
use Rattle.std.proofs.Common.{ℕ, zero, suc, ◌+◌, ◌-◌, ◌/◌, ◌^◌, ◌<◌, ◌≤◌, Bool, true, false, min, List, [], ◌∷◌}
use Rattle.std.proofs.Common.{◌≡◌, sym, ap, subst, arith, le_trans, Some, None, cond, length}
use Rattle.std.specs.Prelude.{fold, nat_lt, slice_index_or, unwrap_or}
use Rattle.std.proofs.lemmas.Bool.{cond_both, cond-false, le-ltb, ltb-true, ltb-false}
use Rattle.std.proofs.Math.Nat.{le-max_left, le-max_right, max-le, min-le_left, min-le_right}
use Rattle.clock.specs.declared.forgetting.Keep.{Keep}
use Rattle.clock.specs.declared.watch.Pulse.{Pulse}
use Rattle.clock.specs.Pruning.{lacks_next, slower, slowest, most_kept, forgettable, horizon_after}
use Rattle.clock.specs.Pruning.{HelpsSlower, KeepsWithin, KeepsWindow}

slower-least : (horizon least height : ℕ) → slower horizon least height ≤ least
slower-least horizon least height =
    cond_both (lacks_next horizon height) least (min least height) (λ n. n ≤ least)
    (λ t. omega arith) (λ f. min-le_left least height)

slower-itself : (horizon least height : ℕ) → lacks_next horizon height ≡ false
    → slower horizon least height ≤ height
slower-itself horizon least height finds =
    subst (λ n. n ≤ height) (sym (cond-false (lacks_next horizon height) least (min least height) finds))
    (min-le_right least height)

-- the slowest is no higher than the one that it begins with
fold-least : (horizon least : ℕ) (shown : List ℕ) → fold (slower horizon) least shown ≤ least
fold-least horizon least [] = omega arith
fold-least horizon least (height ∷ shown) =
    le_trans (fold-least horizon (slower horizon least height) shown) (slower-least horizon least height)

-- nor than any that finds its next block
fold-below : (horizon least : ℕ) (shown : List ℕ) (height k : ℕ) → k < length shown
    → slice_index_or shown k height ≡ height → lacks_next horizon height ≡ false
    → fold (slower horizon) least shown ≤ height
fold-below horizon least [] height k within is finds = absurd (omega (arith, within))
fold-below horizon least (first ∷ shown) height zero within is finds =
    le_trans (fold-least horizon (slower horizon least first) shown)
    (subst (λ h. slower horizon least h ≤ height) (sym is) (slower-itself horizon least height finds))
fold-below horizon least (first ∷ shown) height (suc k) within is finds =
    fold-below horizon (slower horizon least first) shown height k (omega (arith, within)) is finds

-- what the rule answers, by whether it is time
horizon-both : (keep : Keep) (shown : List ℕ) (p : Pulse) (P : ℕ → Type 0)
    → (min (p.horizon + keep.window / 8) (2 ^ 64 - 1) < forgettable keep shown p → P (forgettable keep shown p))
    → (forgettable keep shown p ≤ min (p.horizon + keep.window / 8) (2 ^ 64 - 1) → P p.horizon)
    → P (horizon_after keep shown p)
horizon-both keep shown p P now later =
    cond_both (nat_lt (min (p.horizon + keep.window / 8) (2 ^ 64 - 1)) (forgettable keep shown p))
    (Some (forgettable keep shown p)) None (λ o. P (unwrap_or o p.horizon))
    (λ t. now (ltb-true _ _ t)) (λ f. later (ltb-false _ _ f))

-- a replica that finds its next block before finds it above a lower horizon, too
finds-below : (horizon height : ℕ) → horizon ≤ height → lacks_next horizon height ≡ false
finds-below horizon height below = le-ltb (height + 1) (horizon - 2) (omega (arith, below))

pub helps-slower : HelpsSlower
helps-slower keep shown p height contains finds near =
    horizon-both keep shown p (λ n. lacks_next n height ≡ false)
    (λ now. finds-below (forgettable keep shown p) height
    (let slow = fold-below p.horizon p.height shown height contains.0 contains.1 contains.2 finds in
    max-le (omega (arith, slow)) (omega (arith, near))))
    (λ later. finds)

pub keeps-within : KeepsWithin
keeps-within keep shown p fits =
    horizon-both keep shown p (λ n. p.height - n ≤ most_kept keep + keep.window / 8)
    (λ now. let least = le-max_right (slowest shown p - keep.window) (p.height - most_kept keep) in
    omega (arith, least))
    (λ later. let least = le-max_right (slowest shown p - keep.window) (p.height - most_kept keep) in
    let most = min-le_left (p.horizon + keep.window / 8) (2 ^ 64 - 1) in
    omega (arith, least, later, most))

-- the height that is answered
answered : (b : Bool) (n height : ℕ) → cond b (Some n) None ≡ Some height → n ≡ height
answered true n height is = ap (λ o. unwrap_or o 0) is
answered false n height is = absurd cc

pub keeps-window : KeepsWindow
keeps-window keep shown p height is =
    let slow = fold-least p.horizon p.height shown in
    let wide = le-max_left keep.window keep.most in
    subst (λ n. n ≤ p.height - keep.window)
    (answered (nat_lt (min (p.horizon + keep.window / 8) (2 ^ 64 - 1)) (forgettable keep shown p))
    (forgettable keep shown p) height is)
    (max-le (omega (arith, slow)) (omega (arith, wide)))
