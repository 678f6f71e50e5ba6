-- Up to where a replica may forget, by what is seen of it and how far the others show to be.
use Rattle.std.specs.Prelude.{◌≡◌, ℕ, ◌+◌, ◌/◌, ◌-◌, ◌^◌, ◌<◌, ◌≤◌, min, max, nat_lt, Bool, false, List, Contains}
use Rattle.std.specs.Prelude.{if◌then◌else◌, Option, Some, None, is_some, unwrap_or, fold, true, ◌&&◌}
use Rattle.ids.specs.declared.fault.Fault.{Fault}
use Rattle.ids.specs.declared.fault.Fault.TheVariants.{Full}
use Rattle.ids.specs.declared.limits.TheConstants.{BELOW_HORIZON}
use Rattle.tuning.specs.declared.clocks.TheConstants.{WINDOW_SLACK}
use Rattle.clock.specs.declared.forgetting.Keep.{Keep}
use Rattle.clock.specs.declared.watch.Pulse.{Pulse}

-- Where this is the horizon, who has executed up to this height doesn't find its next block any more.
abbrev pub lacks_next : ℕ → ℕ → Bool
lacks_next horizon height = nat_lt (height + 1) (horizon - BELOW_HORIZON)

-- what a replica shows of which this is seen: its last executed height, or the greatest where it has stopped
abbrev pub shown_by : Pulse → ℕ
shown_by p = if is_some p.stopped then 2 ^ 64 - 1 else p.height

-- it holds as many blocks as it may
abbrev pub is_full : Option Fault → Bool
is_full (Some Full) = true
is_full other = false

-- for how many looks it has been full, with this one, where it was given leave to forget
abbrev pub full_for : (looks : ℕ) → Pulse → (may_forget : Bool) → ℕ
full_for looks p may_forget = if is_full p.stopped && may_forget then min (looks + 1) (2 ^ 64 - 1) else 0

-- the lesser of two heights, as long as who shows the second one finds its next block
abbrev pub slower : ℕ → ℕ → ℕ → ℕ
slower horizon least height = if lacks_next horizon height then least else min least height

-- the least height that was executed, by the replica itself or by one that finds its next block with it
abbrev pub slowest : List ℕ → Pulse → ℕ
slowest shown p = fold (slower p.horizon) p.height shown

-- how many heights below its last executed block it keeps at most
abbrev pub most_kept : Keep → ℕ
most_kept keep = max keep.window keep.most

-- Up to where it may forget: a window below the slowest; and what is more than it keeps at most, in any case.
abbrev pub forgettable : Keep → List ℕ → Pulse → ℕ
forgettable keep shown p = max (slowest shown p - keep.window) (p.height - most_kept keep)

-- It forgets once that is a part of a window above the horizon.
abbrev pub prune_at : Keep → List ℕ → Pulse → Option ℕ
prune_at keep shown p =
    if nat_lt (min (p.horizon + keep.window / WINDOW_SLACK) (2 ^ 64 - 1)) (forgettable keep shown p)
    then Some (forgettable keep shown p)
    else None

-- ---- what the rule is for

-- the horizon after it was asked to forget, or wasn't
abbrev pub horizon_after : Keep → List ℕ → Pulse → ℕ
horizon_after keep shown p = unwrap_or (prune_at keep shown p) p.horizon

-- Nothing that a slower replica needs is forgotten, within the most: who finds its next block before finds it afterwards.
abbrev pub HelpsSlower : Type 0
HelpsSlower = (keep : Keep) (shown : List ℕ) (p : Pulse) (height : ℕ) → Contains shown height
    → lacks_next p.horizon height ≡ false → p.height ≤ height + most_kept keep
    → lacks_next (horizon_after keep shown p) height ≡ false

-- No replica makes it keep more than the most, and the part of a window by which it waits.
abbrev pub KeepsWithin : Type 0
KeepsWithin = (keep : Keep) (shown : List ℕ) (p : Pulse) → p.height < 2 ^ 64
    → p.height - horizon_after keep shown p ≤ most_kept keep + keep.window / WINDOW_SLACK

-- It keeps its window, whatever others show.
abbrev pub KeepsWindow : Type 0
KeepsWindow = (keep : Keep) (shown : List ℕ) (p : Pulse) (height : ℕ) → prune_at keep shown p ≡ Some height
    → height ≤ p.height - keep.window
