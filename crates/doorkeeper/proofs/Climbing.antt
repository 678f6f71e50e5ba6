-- How far leaders climb.
use Rattle.std.proofs.Common.{◌≡◌, ◌+◌, ◌-◌, ◌^◌, ◌<◌, ◌≤◌, ℕ, arith, min, false, subst, sym}
use Rattle.std.proofs.lemmas.Bool.{ltb-false, le-ltb}
use Rattle.std.proofs.Math.Nat.{min-eq_left, min-le_left}
use Rattle.doorkeeper.specs.Climbs.{climbs, most_climb, next_view, LeadersPass}

-- a later view may climb by four more, or by as many as there are
may-climb-more : (before view : ℕ) → before < view → (climb : ℕ) → climb < 2 ^ 64
    → (climb' : ℕ) → climb' ≤ most_climb before → climb ≤ climb' + 4 → climb ≤ most_climb view
may-climb-more before view later climb fits climb' passed more = omega (arith, later, fits, passed, more)

-- an earlier view may climb no further
no-further : (view before climb : ℕ) → view ≤ before → climb ≤ most_climb view → climb ≤ most_climb before
no-further view before climb earlier within = omega (arith, earlier, within)

pub leaders-pass : LeadersPass
leaders-pass before view there here voted own q r found then later near fits passed justifies higher =
    let within = no-further (min before (next_view there)) before (voted.height - voted.justify_height)
    (min-le_left before (next_view there)) (ltb-false _ _ passed) in
    subst (λ (v : ℕ). climbs own v ≡ false) (sym (min-eq_left near))
    (le-ltb _ _ (may-climb-more before view later (own.height - own.justify_height) (omega (arith, fits))
    (voted.height - voted.justify_height) within (omega (arith, justifies, higher))))
