-- Whose requests a leader lets in, where what it proposes finds no certificate.
use Rattle.std.specs.Prelude.{ℕ, ◌+◌, ◌-◌, ◌*◌, ◌^◌, ◌%◌, ◌==◌, ◌&&◌, ◌||◌, Bool, true, false, not, max, min, Option, Some, None}
use Rattle.std.specs.Prelude.{if◌then◌else◌, is_none, nat_le, nat_lt, option_map, replicate, slice_index_or, slice_set}
use Rattle.tuning.specs.declared.clocks.TheConstants.{LAG_WEIGHT}
use Rattle.tuning.specs.declared.clients.TheConstants.{BAR_MILLIS, MOST_DOUBLINGS, TRIAL_STRIDE}
use Rattle.suspicion.specs.declared.suspects.Standing.{Standing}
use Rattle.suspicion.specs.declared.suspects.Suspects.{Suspects}
use Rattle.suspicion.specs.declared.suspects.Trial.{Trial}

-- a sum that stops at the greatest number
abbrev capped : ℕ → ℕ
capped n = min n (2 ^ 64 - 1)

-- nothing is known of a client
abbrev pub fresh : Standing
fresh = record { cleared_in = 0; vain = 0; failures = 0; barred_until = 0; doubts = 0; doubted_until = 0 }

-- nothing is known of any client
abbrev pub calm : Suspects
calm = record {
  is_on = false;
  by_trial = false;
  round = 0;
  has_cleared = false;
  clears_others = false;
  trial = None;
  pause_until = 0;
  wary_until = 0;
  standings = replicate 256 fresh;
}

abbrev pub standing_of : Suspects → ℕ → Standing
standing_of s client = slice_index_or s.standings client fresh

abbrev with_standing : ℕ → Standing → Suspects → Suspects
with_standing client x s = record s { standings = slice_set s.standings client x }

-- the milliseconds for which it is barred or doubted that was so often before: twice as long each time, up to so often
abbrev pub bar_of : ℕ → ℕ
bar_of failures = BAR_MILLIS * 2 ^ min failures MOST_DOUBLINGS

-- it was vouched for, or passed its trial, since the replica began anew
abbrev pub has_passed : Suspects → ℕ → Bool
has_passed s client = (standing_of s client).cleared_in == s.round

-- it is suspected, if nobody vouches for it
abbrev pub is_suspected : Suspects → ℕ → Bool
is_suspected s client = s.is_on && not (has_passed s client)

-- it passed, or was never tried in vain where all such ones are cleared that are vouched for
abbrev pub is_cleared : Suspects → ℕ → Bool
is_cleared s client = (s.clears_others && ((standing_of s client).vain == 0)) || has_passed s client

abbrev pub is_on_trial : Option Trial → ℕ → Bool
is_on_trial None client = false
is_on_trial (Some trial) client = trial.client == client

-- A client's requests are let in though nobody vouches for them: nowhere while it is barred; where the replica leads not
-- while it is doubted, and while anybody is suspected only if it is cleared or on trial.
abbrev pub is_let_in : Suspects → (client : ℕ) → (leads : Bool) → (now : ℕ) → Bool
is_let_in s client leads now =
    (not leads
    || ((not s.is_on || is_on_trial s.trial client || has_passed s client)
    && nat_le (standing_of s client).doubted_until now))
    && nat_le (standing_of s client).barred_until now

-- A leader lets in a request of it for which enough others vouch: not while it is barred, and where trials are needed
-- only if it is cleared or on trial.
abbrev pub is_let_in_vouched : Suspects → (client : ℕ) → (now : ℕ) → Bool
is_let_in_vouched s client now =
    (not (s.is_on && s.by_trial) || is_on_trial s.trial client || is_cleared s client)
    && nat_le (standing_of s client).barred_until now

-- some client isn't let in as others are
abbrev pub is_wary : Suspects → (now : ℕ) → Bool
is_wary s now = s.is_on || nat_lt now s.wary_until

-- another trial may begin
abbrev pub may_try : Suspects → (now : ℕ) → Bool
may_try s now = s.is_on && s.by_trial && is_none s.trial && nat_le s.pause_until now

-- a client waits for its trial, if others vouch for its request
abbrev pub is_due : Suspects → (client now : ℕ) → Bool
is_due s client now = not (nat_lt now (standing_of s client).barred_until) && not (is_cleared s client)

-- its place among those that do: behind those that were tried in vain less often, and of others another one each round
abbrev pub place_of : Suspects → (client : ℕ) → ℕ
place_of s client = (standing_of s client).vain * 256 + (client + s.round % 256) * TRIAL_STRIDE % 256

abbrev pub tried : Suspects → (client seq now : ℕ) → Suspects
tried s client seq now =
    record s { trial = Some (record { client = client; seq = seq; since = now; waits = false }) }

-- it wasn't answered at once
abbrev waiting : Trial → Trial
waiting trial = record trial { waits = true }

-- what is on trial wasn't
abbrev pub waited : Suspects → Suspects
waited s = record s { trial = option_map waiting s.trial }

-- a client was tried in vain
abbrev pub tried_in_vain : Suspects → (client : ℕ) → Suspects
tried_in_vain s client = with_standing client
    (record (standing_of s client) { vain = min ((standing_of s client).vain + 1) (2 ^ 32 - 1) }) s

-- a moment so long from now
abbrev until : (now times : ℕ) → ℕ
until now times = capped (now + bar_of times)

-- some client isn't let in as others are, at least until this moment
abbrev wary : (until : ℕ) → Suspects → Suspects
wary until s = record s { wary_until = max s.wary_until until }

-- it is barred
abbrev pub barred : Suspects → (client now : ℕ) → Suspects
barred s client now =
    wary (until now (standing_of s client).failures) (with_standing client (record (standing_of s client) {
      failures = min ((standing_of s client).failures + 1) (2 ^ 32 - 1);
      barred_until = until now (standing_of s client).failures;
    }) s)

-- it is doubted
abbrev pub doubted : Suspects → (client now : ℕ) → Suspects
doubted s client now =
    wary (until now (standing_of s client).doubts) (with_standing client (record (standing_of s client) {
      doubts = min ((standing_of s client).doubts + 1) (2 ^ 32 - 1);
      doubted_until = until now (standing_of s client).doubts;
    }) s)

-- enough others vouch for its request: it is cleared, but where trials are needed
abbrev pub vouched : Suspects → (client : ℕ) → Suspects
vouched s client =
    if s.by_trial then s
    else with_standing client (record (standing_of s client) { cleared_in = s.round }) s

-- The next trial waits three times as long as one that began then lasted, so that a view in which the others are served
-- doesn't end of trials.
abbrev pub paused : Suspects → (since now : ℕ) → Suspects
paused s since now = record s { pause_until = capped (now + capped ((now - since) * LAG_WEIGHT)) }

-- all are suspected anew, or only who was tried in vain
abbrev pub suspecting : Suspects → (clears_others : Bool) → Suspects
suspecting s clears_others =
    record s {
      is_on = true;
      trial = None;
      has_cleared = false;
      clears_others = clears_others;
      round = capped (s.round + 1);
    }

-- a client that is on trial since then failed it, and the others stay cleared
abbrev pub convicted : Suspects → (client since now : ℕ) → Suspects
convicted s client since now =
    record (paused (barred (tried_in_vain s client) client now) since now) { trial = None; has_cleared = false }

-- The replica begins anew with what it certified: who is on trial failed it, where another client was cleared since the
-- last failure; else all are suspects. Where they were before, trials are needed.
abbrev begun_from : Option Trial → Suspects → (now : ℕ) → Suspects
begun_from None s now = suspecting (record s { by_trial = s.is_on }) false
begun_from (Some trial) s now =
    if s.has_cleared then convicted s trial.client trial.since now
    else suspecting (tried_in_vain s trial.client) false

abbrev pub begun : Suspects → (now : ℕ) → Suspects
begun s now = begun_from s.trial s now

abbrev judged : Option Trial → Suspects → (now : ℕ) → Suspects
judged None s now = s
judged (Some trial) s now = paused (tried_in_vain s trial.client) trial.since now

-- it begins anew from its lock: only who was tried in vain is suspected still
abbrev pub begun_with_others : Suspects → (now : ℕ) → Suspects
begun_with_others s now = suspecting (judged s.trial s now) true

-- nobody is suspected
abbrev pub ended : Suspects → Suspects
ended s = record s { is_on = false; by_trial = false; trial = None }

abbrev cleared : Trial → Suspects → (client : ℕ) → Suspects
cleared trial s client = with_standing client (record (standing_of s client) {
  cleared_in = s.round;
  vain = 0;
  failures = (standing_of s client).failures - 1;
}) (record s { trial = None; has_cleared = s.has_cleared || trial.waits })

-- a client's request was executed: it is cleared where that was its trial
abbrev passed : Option Trial → Suspects → (client seq : ℕ) → Suspects
passed None s client seq = s
passed (Some trial) s client seq =
    if (trial.client == client) && (trial.seq == seq) then cleared trial s client else s

abbrev pub served : Suspects → (client seq : ℕ) → Suspects
served s client seq = passed s.trial s client seq
