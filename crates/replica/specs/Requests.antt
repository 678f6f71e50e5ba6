-- What a request changes.
use Rattle.ids.specs.declared.limits.TheConstants.{MOST_PENDING}
use Rattle.ids.specs.declared.fault.Fault.{Fault}
use Rattle.ids.specs.declared.fault.Fault.TheVariants as fault
use Rattle.std.specs.Prelude.{◌≡◌, ◌==◌, ◌&&◌, not, Bool, true, false, List, [], length, nat_lt}
use Rattle.std.specs.Prelude.{if◌then◌else◌, option_to_list, Option, Some, None, Result, Err, MatchResult}
use Rattle.std.specs.List.{list_any}
use Rattle.definitions.specs.Frames.{Command}
use Rattle.definitions.specs.Histories.{History, Answer, last_seq, answer_to}
use Rattle.definitions.specs.Keyrings.{Keys}
use Rattle.definitions.specs.States.{is_same_request, is_due}
use Rattle.mempool.specs.Pool.{planned_for}
use Rattle.replica.specs.declared.stored.StoredStep.TheVariants.{GotRequest}
use Rattle.replica.specs.declared.change.Change.{Change}
use Rattle.replica.specs.declared.change.Growth.{Growth}
use Rattle.replica.specs.declared.change.Growth.TheVariants.{Nothing, Request}
use Rattle.signed_frames.specs.Outs.{SentBytes}
use Rattle.replica.specs.Kept.{StateParts}
use Rattle.replica.specs.Changes.{noting}
use Rattle.replica.specs.Execution.{told_one}

-- others wait, as many as may
abbrev pub is_full : Command → List Command → Bool
is_full r ps = not (list_any (is_same_request r) ps) && not (nat_lt (length ps) MOST_PENDING)

-- it waits, unless it does so already
abbrev pub growth_for : Option Command → Growth
growth_for None = Nothing
growth_for (Some r) = Request r

abbrev pub waiting_change : StateParts → Command → Change
waiting_change s r =
    record (noting s.variables (GotRequest r) []) { growth = growth_for (planned_for r s.pending) }

abbrev pub IsWaiting : StateParts → Command → Result Change Fault → Bool → Type 0
IsWaiting s r result true = result ≡ Err fault.PoolFull
IsWaiting s r result false = MatchResult result (λ d. d ≡ waiting_change s r) (λ n. n ≡ fault.Memory)

-- the last reply again
abbrev pub reply_again : Keys → Option Answer → List SentBytes
reply_again keys None = []
reply_again keys (Some a) = option_to_list (told_one keys a)

abbrev pub again_sent : Keys → History → Command → List SentBytes
again_sent keys h r =
    if r.seq == last_seq r.client h then reply_again keys (answer_to keys.sizes.most_keys r.client r.seq h) else []

abbrev pub old_change : Keys → StateParts → History → Command → Change
old_change keys s h r = noting s.variables (GotRequest r) (again_sent keys h r)

-- by whether it comes after all that was executed for its client
abbrev pub IsRequestedIf : Keys → StateParts → History → Command → Result Change Fault → Bool → Type 0
IsRequestedIf keys s h r result true = IsWaiting s r result (is_full r s.pending)
IsRequestedIf keys s h r result false =
    MatchResult result (λ d. d ≡ old_change keys s h r) (λ n. n ≡ fault.Memory)

abbrev pub IsRequested : Keys → StateParts → History → Command → Result Change Fault → Type 0
IsRequested keys s h r result = IsRequestedIf keys s h r result (is_due h r)
