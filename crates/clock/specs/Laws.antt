-- What the rule is for.
use Rattle.std.specs.Prelude.{◌≡◌, ℕ, ◌+◌, ◌*◌, ◌-◌, ◌≤◌, ◌⊎◌, ◌==◌, true, not, max, List, [], ◌∷◌}
use Rattle.std.specs.Prelude.{if◌then◌else◌}
use Rattle.tuning.specs.declared.clocks.TheConstants.{BEGINNING_SLACK, LAG_WEIGHT, LEAST_BEAT_MILLIS, MOST_SLACK}
use Rattle.ids.specs.Sizes.{Sizes}
use Rattle.clock.specs.declared.watch.Pulse.{Pulse}
use Rattle.clock.specs.declared.watch.Watch.{Watch}
use Rattle.clock.specs.Watching.{climbs, counted, is_due, is_stuck, lags, limit_after, limit_of, looked, silence_after, unseen, vain_after}

-- the looks at a replica of these sizes, which may take so many times as long: each at a moment, and what was seen then; the last one first
abbrev pub Looks : Type 0
Looks = List (ℕ × Pulse)

-- what is remembered after them
unfoldable pub watched : (config : Sizes) (times : ℕ) → Looks → Watch
watched config times [] = unseen config times
watched config times (x ∷ earlier) = looked (watched config times earlier) x.0 x.1

-- for how many milliseconds it has lagged after a look, where it had lagged for so many before it; or so many as are
-- kept, where it doesn't lag. In a new view, and once a timeout is due, it is none
abbrev lagged_after : Watch → ℕ × Pulse → (before kept : ℕ) → ℕ
lagged_after w x before kept =
    if not (x.1.view == w.view) then 0
    else if is_due w x.0 x.1 then 0
    else if lags w x.0 x.1 then before + (x.0 - w.looked)
    else kept

-- for how many milliseconds the replica lagged in the view that it was seen in last, and since the last timeout
-- that was due in it
unfoldable pub lagged : (config : Sizes) (times : ℕ) → Looks → ℕ
lagged config times [] = 0
lagged config times (x ∷ earlier) =
    let before = lagged config times earlier in lagged_after (watched config times earlier) x before before

-- for how many milliseconds it has lagged at each look without anything executed, and without a timeout that was due
unfoldable pub silent : (config : Sizes) (times : ℕ) → Looks → ℕ
silent config times [] = 0
silent config times (x ∷ earlier) =
    let w = watched config times earlier in
    if is_due w x.0 x.1 then 0
    else if is_stuck w x.0 x.1 then silent config times earlier + (x.0 - w.looked)
    else 0

-- No timeout is due before the replica has lagged for a third (one in `LAG_WEIGHT`) of the limit of its view, this
-- look included, or nothing was executed for a third of what that may last, or its view has brought more heights than it may
-- without a decision.
abbrev pub IsEarned : Type 0
IsEarned = (config : Sizes) (times : ℕ) (earlier : Looks) (now : ℕ) (p : Pulse)
    → is_due (watched config times earlier) now p ≡ true
    → (limit_after (watched config times earlier) now p ≤ LAG_WEIGHT * (lagged config times earlier + (now - (watched config times earlier).looked)))
    ⊎ ((silence_after (watched config times earlier) now p ≤ LAG_WEIGHT * (silent config times earlier + (now - (watched config times earlier).looked)))
    ⊎ (climbs (watched config times earlier) p ≡ true))

-- the same, as far back as it lagged at each look
unfoldable pub lagged_on : (config : Sizes) (times : ℕ) → Looks → ℕ
lagged_on config times [] = 0
lagged_on config times (x ∷ earlier) = lagged_after (watched config times earlier) x (lagged_on config times earlier) 0

-- A timeout is due once the replica has lagged at each look for a third of the limit of its view, this look
-- included.
abbrev pub IsGiven : Type 0
IsGiven = (config : Sizes) (times : ℕ) (earlier : Looks) (now : ℕ) (p : Pulse)
    → (let w = watched config times earlier in p.view ≡ w.view → lags w now p ≡ true
    → limit_after w now p ≤ LAG_WEIGHT * (lagged_on config times earlier + (now - w.looked))
    → is_due w now p ≡ true)

-- the most that a replica may lag while nothing is executed: twice as much as views in vain allow; and where nobody is in a later
-- view, so many times as much as none in vain would allow
abbrev pub most_silent : Watch → ℕ → Pulse → ℕ
most_silent w now p =
    max (limit_of w.limit (counted w (vain_after w now p) p) * BEGINNING_SLACK)
    (if p.passed then 0 else limit_of w.limit (counted w 0 p) * MOST_SLACK)

-- A timeout is due once the replica has lagged at each look without anything executed for a third of that, this look included.
abbrev pub EndsSilences : Type 0
EndsSilences = (config : Sizes) (times : ℕ) (earlier : Looks) (now : ℕ) (p : Pulse)
    → (let w = watched config times earlier in is_stuck w now p ≡ true
    → most_silent w now p ≤ LAG_WEIGHT * (silent config times earlier + (now - w.looked))
    → is_due w now p ≡ true)

-- A proposal may always wait for the least pause before there is a beat on top of it.
abbrev pub IsPatient : Type 0
IsPatient = (config : Sizes) (times : ℕ) (looks : Looks) → LEAST_BEAT_MILLIS ≤ (watched config times looks).pause

-- so many times as long as usual: at least as long, and no more than the most
abbrev pub IsSlack : ℕ → Type 0
IsSlack times = (1 ≤ times) × (times ≤ MOST_SLACK)

-- A command may always take as long as usual, and never more than so many times as long.
abbrev pub IsOwed : Type 0
IsOwed = (config : Sizes) (times : ℕ) (looks : Looks) → IsSlack (watched config times looks).slack
