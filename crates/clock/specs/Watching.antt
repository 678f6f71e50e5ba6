-- What is due to a replica, by what was seen of it.
use Rattle.std.specs.Prelude.{ℕ, ◌+◌, ◌*◌, ◌/◌, ◌-◌, ◌^◌, ◌==◌, ◌&&◌, ◌||◌, not, min, max, nat_le, Bool}
use Rattle.std.specs.Prelude.{if◌then◌else◌, nat_lt, false, Option, Some, None}
use Rattle.std.specs.Option.{option_or}
use Rattle.tuning.specs.declared.clocks.TheConstants.{BEGINNING_SLACK, CALM_MILLIS, CLIMB_A_LIMIT, COMMAND_SHARE, LAG_WEIGHT, LEAD_PART}
use Rattle.tuning.specs.declared.clocks.TheConstants.{LEAST_BEAT_MILLIS}
use Rattle.tuning.specs.declared.clocks.TheConstants.{LEAST_COMMAND_MILLIS, MOST_COUNTED, MOST_SLACK, MOST_UNDECIDED, SPENT_PART, VIEW_LIMIT}
use Rattle.ids.specs.Sizes.{Sizes, replicas}
use Rattle.clock.specs.declared.watch.LeadFrom.{LeadFrom}
use Rattle.clock.specs.declared.watch.LeadFrom.TheVariants.{Certified, Lock}
use Rattle.clock.specs.declared.watch.Pulse.{Pulse}
use Rattle.clock.specs.declared.watch.Due.{Due}
use Rattle.clock.specs.declared.watch.Watch.{Watch}

-- the milliseconds that a command may take among so many replicas: their cube, divided, and at least so many
abbrev pub patience_of : ℕ → ℕ
patience_of n = max (n * n * n / COMMAND_SHARE) LEAST_COMMAND_MILLIS

-- nothing was seen yet: view 0, nothing executed, and the least pause. Views and commands may take so many times as long
abbrev pub unseen : Sizes → (times : ℕ) → Watch
unseen config times = record {
  view = 0;
  executed = 0;
  looked = 0;
  patience = min (patience_of (replicas config) * times) (2 ^ 64 - 1);
  limit = min (VIEW_LIMIT * times) (2 ^ 64 - 1);
  faults = config.faults;
  slow = 0;
  asked = 0;
  pause = LEAST_BEAT_MILLIS;
  height = 0;
  from = 0;
  began = 0;
  stuck = 0;
  led = None;
  vain = 0;
  slack = 1;
  served = false;
  calm = 0;
}

-- its view or its history changed since it was looked at last
abbrev pub moved : Watch → Pulse → Bool
moved w p = not ((p.view == w.view) && (p.executed == w.executed))

-- how many milliseconds a command may take in its view
abbrev pub borne : Watch → ℕ
borne w = min (w.patience * w.slack) (2 ^ 64 - 1)

-- The commands that were executed since it was looked at last took longer than they may, for each request that
-- waits, up to so many of them. Where none waits it doesn't lag.
abbrev pub lags : Watch → ℕ → Pulse → Bool
lags w now p =
    nat_lt (min ((p.executed - w.executed) * borne w) (2 ^ 64 - 1))
    (min ((now - w.looked) * min p.pending MOST_COUNTED) (2 ^ 64 - 1))

-- how slow its view was: each millisecond in which it lagged counts so much, each other one takes one back
abbrev pub slow_after : Watch → ℕ → Pulse → ℕ
slow_after w now p =
    if not (p.view == w.view) then 0
    else if lags w now p then min (w.slow + min ((now - w.looked) * LAG_WEIGHT) (2 ^ 64 - 1)) (2 ^ 64 - 1)
    else w.slow - (now - w.looked)

-- its view has served for so long without being slow at all
abbrev pub is_calm : Watch → ℕ → Bool
is_calm w now = w.served && nat_le CALM_MILLIS (now - w.calm)

-- since when it wasn't slow at all, or half of the views in vain were forgotten
abbrev pub calm_after : Watch → ℕ → Pulse → ℕ
calm_after w now p =
    if (not (p.view == w.view) || nat_lt 0 (slow_after w now p)) || is_calm w now then now else w.calm

-- So many views passed in vain: of those before the one that it is in, as far as nothing was executed in them. One in
-- which something was halves their number when it ends, and while it is calm.
abbrev pub vain_after : Watch → ℕ → Pulse → ℕ
vain_after w now p =
    if p.view == w.view then (if is_calm w now then w.vain / 2 else w.vain)
    else if w.served then w.vain / 2
    else min (w.vain + (p.view - w.view)) (2 ^ 64 - 1)

-- How many times as long as usual a command may take, and a view lag: twice as many behind each view that ended though
-- something was executed in it, up to the most, for the next leader may be no faster; half as many while a view is calm.
abbrev pub slack_after : Watch → ℕ → Pulse → ℕ
slack_after w now p =
    if p.view == w.view then (if is_calm w now then max (w.slack / 2) 1 else w.slack)
    else if w.served then min (min (w.slack * 2) (2 ^ 64 - 1)) MOST_SLACK
    else w.slack

-- something was executed in the view that it is in
abbrev pub served_after : Watch → Pulse → Bool
served_after w p = (w.served && (p.view == w.view)) || not (p.executed == w.executed)

-- what it had voted for when its view began
abbrev pub began_after : Watch → Pulse → ℕ
began_after w p = if p.view == w.view then w.began else p.voted

-- So many views in vain count against its view: but as many as leaders may be faulty, and one for so many heights that it had
-- voted for above its last executed block when its view began.
abbrev pub counted : Watch → (vain : ℕ) → Pulse → ℕ
counted w vain p = min (vain - w.faults + (began_after w p - p.height) / CLIMB_A_LIMIT) (2 ^ 64 - 1)

-- how slow a view may be: the least limit, as much more for each view that counts, and for the square of half their number
abbrev pub limit_of : (least vain : ℕ) → ℕ
limit_of least vain =
    min (min (min (vain + min (vain / 2 * (vain / 2)) (2 ^ 64 - 1)) (2 ^ 64 - 1) + 1) (2 ^ 64 - 1) * least) (2 ^ 64 - 1)

-- how many times as slow its view may be: as many as its commands may take, and before anything was executed in it so many at most
abbrev pub borne_by : Watch → (slack : ℕ) → ℕ
borne_by w slack = if w.served then slack else min slack BEGINNING_SLACK

-- how many heights a view may bring without a decision: so many, and as many more for each view before it
abbrev pub most_undecided : ℕ → ℕ
most_undecided view = min (min (view + 1) (2 ^ 64 - 1) * MOST_UNDECIDED) (2 ^ 64 - 1)

-- one in this view voted for a block as high above its last executed one as a leader may climb, which is half of that
abbrev pub is_spent : (view height voted : ℕ) → Bool
is_spent view height voted = nat_le (most_undecided view / 2) (voted - height)

-- that of its view, where so many passed in vain, so many times: where its leader may climb no further, a part
abbrev pub limit_where : Watch → (vain times : ℕ) → Pulse → ℕ
limit_where w vain times p =
    let limit = min (limit_of w.limit (counted w vain p) * times) (2 ^ 64 - 1) in
    if is_spent p.view p.height p.voted then limit / SPENT_PART else limit

abbrev pub limit_after : Watch → ℕ → Pulse → ℕ
limit_after w now p = limit_where w (vain_after w now p) (borne_by w (slack_after w now p)) p

-- How much it may lag while nothing is executed: as much as at its beginning. Where something was executed in it, and nobody is in a
-- later view, so many times as its commands may take as long, too, but no more for views in vain.
abbrev pub silence_after : Watch → ℕ → Pulse → ℕ
silence_after w now p =
    let least = limit_where w (vain_after w now p) (min (slack_after w now p) BEGINNING_SLACK) p in
    if w.served && not p.passed then max least (limit_where w 0 (slack_after w now p) p) else least

-- it lags, and has been slow for so long
abbrev pub is_over : Watch → (now limit slow : ℕ) → Pulse → Bool
is_over w now limit slow p = lags w now p && nat_le limit slow

-- its view or its last executed block changed since it was looked at last
abbrev pub settled : Watch → Pulse → Bool
settled w p = not ((p.view == w.view) && (p.height == w.height))

-- since then its view has brought more
abbrev pub climbs : Watch → Pulse → Bool
climbs w p = not (settled w p) && nat_lt (most_undecided p.view) (p.voted - w.from)

-- its requests lag, and nothing was executed since it was looked at last
abbrev pub is_stuck : Watch → ℕ → Pulse → Bool
is_stuck w now p = not (moved w p) && lags w now p

-- how much it has lagged since something was executed
abbrev pub stuck_after : Watch → ℕ → Pulse → ℕ
stuck_after w now p = if is_stuck w now p then min (w.stuck + min ((now - w.looked) * LAG_WEIGHT) (2 ^ 64 - 1)) (2 ^ 64 - 1) else 0

-- it has lagged for so long while nothing was executed
abbrev pub is_silent : Watch → (now limit stuck : ℕ) → Pulse → Bool
is_silent w now limit stuck p = is_stuck w now p && nat_le limit stuck

-- its view is over with what is seen at this moment
abbrev pub is_due : Watch → ℕ → Pulse → Bool
is_due w now p =
    (is_over w now (limit_after w now p) (slow_after w now p) p || is_silent w now (silence_after w now p) (stuck_after w now p) p)
    || climbs w p

-- nothing that it proposed waits for votes, or it has just got on
abbrev pub rests : Watch → Pulse → Bool
rests w p = moved w p || p.wants_beat_now || not p.wants_beat

-- what it proposed has waited for votes through the whole pause
abbrev pub is_overdue : Watch → ℕ → Pulse → Bool
is_overdue w now p = not (rests w p) && nat_le w.pause (now - w.asked)

-- how much a leader may be stuck before it begins anew, where its view may be so for so much: a part of that, and at
-- least half of a command's time
abbrev pub lead_after : (patience limit : ℕ) → ℕ
lead_after patience limit = max (limit / LEAD_PART) (min (patience * LAG_WEIGHT) (2 ^ 64 - 1) / 2)

-- From what it begins anew, where it was stuck for so much: first from what its last proposal certifies, and once from
-- its lock, after twice as much.
abbrev pub next_lead : Option LeadFrom → (stuck least : ℕ) → Option LeadFrom
next_lead None stuck least = if nat_le least stuck then Some Certified else None
next_lead (Some Certified) stuck least = if nat_le (min (least * 2) (2 ^ 64 - 1)) stuck then Some Lock else None
next_lead (Some Lock) stuck least = None

-- it does so while it is stuck, and what it proposed waits for votes
abbrev pub lead_where : Watch → (now limit stuck : ℕ) → Pulse → Option LeadFrom
lead_where w now limit stuck p =
    if (p.wants_beat && not p.wants_beat_now) && is_stuck w now p
    then next_lead w.led stuck (lead_after w.patience limit) else None

abbrev pub lead_of : Watch → ℕ → Pulse → Option LeadFrom
lead_of w now p = lead_where w now (silence_after w now p) (stuck_after w now p) p

-- what is due
abbrev pub due_of : Watch → ℕ → Pulse → Due
due_of w now p = record {
  beat = p.wants_beat_now || is_overdue w now p;
  timeout = if is_due w now p then Some p.view else None;
  lead = lead_of w now p;
}

-- the next pause, in milliseconds: half of the last, and no less than the least, where the replica has got on, and
-- twice as long where it passed in vain
abbrev pub pause_after : ℕ → Bool → Bool → ℕ
pause_after pause got_on passed =
    if got_on then max (pause / 2) LEAST_BEAT_MILLIS else if passed then min (pause * 2) (2 ^ 64 - 1) else pause

-- what was seen so far, with this. How slow the view was, how silent, and what it brought, begins anew where a timeout is due
abbrev pub looked : Watch → ℕ → Pulse → Watch
looked w now p = record {
  view = p.view;
  executed = p.executed;
  looked = now;
  patience = w.patience;
  limit = w.limit;
  faults = w.faults;
  slow = if is_due w now p then 0 else slow_after w now p;
  asked = if rests w p || is_overdue w now p then now else w.asked;
  pause = pause_after w.pause (moved w p) (is_overdue w now p);
  height = p.height;
  from = if settled w p || is_due w now p then p.voted else w.from;
  began = began_after w p;
  stuck = if is_due w now p then 0 else stuck_after w now p;
  led = if is_stuck w now p then option_or (lead_of w now p) w.led else None;
  vain = vain_after w now p;
  slack = slack_after w now p;
  served = served_after w p;
  calm = calm_after w now p;
}
