-- How a pool follows the chronicle of its replica.
use Rattle.std.specs.Prelude.{◌≡◌, [], ◌∷◌, ◌++◌, ◌-◌, map, take, length, true, false, ⊤}
use Rattle.definitions.specs.Frames.{Command}
use Rattle.definitions.specs.Branches.{Branch}
use Rattle.definitions.specs.Histories.{History, history_of}
use Rattle.definitions.specs.Chronicles.{Chronicle, Step, Step.noted, Note.got_request, Note.led_from}
use Rattle.definitions.specs.Chronicles.{history, horizon}
use Rattle.definitions.specs.States.{is_due, pending, picks, with_request}
use Rattle.mempool.specs.Pool.{first_beside, left_after}

-- a request that is stored joins the pending ones where it is due, and where it isn't they stay
pub record FollowsRequest (c : Chronicle) (r : Command) : Type 0 where
  pub due : is_due (history c) r ≡ true
      → pending (noted (got_request r) ∷ c) ≡ with_request (noted (got_request r)) (pending c)
  pub late : is_due (history c) r ≡ false → pending (noted (got_request r) ∷ c) ≡ pending c

-- a lead forgets all of them
abbrev pub IsForgottenBy : Chronicle → Branch → Type 0
IsForgottenBy c b = pending (noted (led_from b) ∷ c) ≡ []

-- the step is no lead
abbrev pub IsNoLead : Step → Type 0
IsNoLead (noted (led_from b)) = ⊥
IsNoLead s = ⊤

-- a step that brings no request and is no lead takes out what it executes, and leaves the others
abbrev pub IsLeftBy : Chronicle → Step → History → Type 0
IsLeftBy c s new =
    IsNoLead s → with_request s (pending c) ≡ pending c → history (s ∷ c) ≡ new ++ history c
    → pending (s ∷ c) ≡ left_after new (pending c)

-- the commands of a branch above the horizon
abbrev pub unpruned : Chronicle → Branch → History
unpruned c on = history_of (take (length on - horizon c) on)

-- What is picked beside the clients and numbers of a branch above the horizon is what a child of it takes;
-- what was executed may be left out there.
pub record IsPicked (c : Chronicle) (on : Branch) : Type 0 where
  pub whole : first_beside (map (λ e. (e.client, e.seq)) (unpruned c on)) (pending c) ≡ picks c on
  pub above : (new old older : History) → unpruned c on ≡ new ++ old → history c ≡ old ++ older
      → first_beside (map (λ e. (e.client, e.seq)) new) (pending c) ≡ picks c on
