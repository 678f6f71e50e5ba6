-- What a call of a client's service comes to: what goes over its link, and steps of its session.
use Rattle.std.specs.Prelude.{◌≡◌, ◌≤◌, ◌⊎◌, ◌-◌, ◌^◌, ◌==◌, Bool, false, MatchBool, if◌then◌else◌}
use Rattle.std.specs.Prelude.{List, [], ◌∷◌}
use Rattle.std.specs.Prelude.{◌++◌, length, map, Option, Some, None}
use Rattle.std.specs.List.{flat_map}
use Rattle.tuning.specs.declared.clients.TheConstants.{LATE_TRIES, MOST_TRIES}
use Rattle.definitions.specs.Bytes.{Bytes}
use Rattle.definitions.specs.Requests.{Asked}
use Rattle.definitions.specs.Canonical.{request_of}
use Rattle.definitions.specs.Frames.{Frame, spelling}
use Rattle.definitions.specs.Replicas.{MemorySupply}
use Rattle.definitions.specs.Sessions.{Receipt, sent_request, submission}
use Rattle.signed_frames.specs.Clients.{client_of}
use Rattle.client_accept.specs.Sessions.{Held}
use Rattle.client_service.specs.Links.{Traffic, sent, came, silent, looked, Passes, Goes}

-- ---- tries

-- One try without a receipt: what came, and whether the link was open in the end.
pub record Try : Type 0 where
  pub heard : List Bytes
  pub is_open : Bool

-- what ends listening: nothing came in time, unless so much came that nobody can count it
abbrev pub ended_by : List Bytes → List Traffic
ended_by heard = if length heard == (2 ^ 64 - 1) then [] else silent ∷ []

-- what goes over the link in a try: the frame, what comes until nothing comes in time, and a look at the link
abbrev pub try_traffic : Bytes → Try → List Traffic
try_traffic frame t = sent frame ∷ (map came t.heard ++ (ended_by t.heard ++ looked t.is_open ∷ []))

-- the link was found closed, and so many tries were made since
abbrev pub ClosedFor : List Try → List Try → Type 0
ClosedFor tries late =
    (before : List Try) × (closed : Try) × (tries ≡ before ++ closed ∷ late) × (closed.is_open ≡ false)

-- a request is given up: after thirty tries, or after the second one since the link was found closed
abbrev pub GivesUp : List Try → Type 0
GivesUp tries = (length tries ≤ MOST_TRIES)
    × ((length tries ≡ MOST_TRIES) ⊎ ((late : List Try) × ClosedFor tries late × (length late ≡ LATE_TRIES)))

-- the payload's request was submitted, and the bytes of its frame stand in the session
pub record IsSubmittedFor (old : Held) (payload : Bytes) (new : Held) : Type 0 where
  pub request : Asked
  pub payload_is : request_of payload ≡ Some request
  pub memory : MemorySupply
  pub frame : Frame
  pub is : submission (client_of old.keys) memory payload old.session ≡ (new.session, sent_request frame)
  pub keys : new.keys ≡ old.keys
  pub bytes : new.frame ≡ spelling frame

module _ {L : Type 0} (carries : L → Traffic → L → Type 0) where
  -- the service listens: bytes come, and the last of them give the receipt, or nothing more comes in time
  abbrev pub Listens : Held × L → Option Receipt → Held × L → Type 0
  Listens old (Some r) new =
      (heard : List Bytes) × (last : Bytes) × (between : Held × L) × Goes carries old (map came heard) between
      × Passes carries between (came last) (Some r) new
  Listens old None new = (heard : List Bytes) × Goes carries old (map came heard ++ ended_by heard) new

  -- The service asks all replicas: it sends the frame and listens, in some tries and then in one that gives
  -- the receipt, or until it gives the request up.
  abbrev pub Asks : Held × L → Option Receipt → Held × L → Type 0
  Asks old (Some r) new =
      (tries : List Try) × (between : Held × L) × (listening : Held × L)
      × Goes carries old (flat_map (try_traffic old.0.frame) tries) between
      × Passes carries between (sent old.0.frame) None listening × Listens listening (Some r) new
  Asks old None new =
      (tries : List Try) × GivesUp tries × Goes carries old (flat_map (try_traffic old.0.frame) tries) new

  -- The service asks once more: it sends the frame and listens.
  abbrev pub AsksAgain : Held × L → Option Receipt → Held × L → Type 0
  AsksAgain old r new =
      (listening : Held × L) × Passes carries old (sent old.0.frame) None listening
      × Listens listening r new

  -- The service asks for the payload's request, once it is submitted. Where it isn't, all is as before.
  abbrev pub IsAsked : Held × L → Bytes → Option Receipt → Held × L → Type 0
  IsAsked old payload (Some r) new =
      (begun : Held) × IsSubmittedFor old.0 payload begun × Asks (begun, old.1) (Some r) new
  IsAsked old payload None new = (new ≡ old)
      ⊎ ((begun : Held) × IsSubmittedFor old.0 payload begun × Asks (begun, old.1) None new)

  -- The service looks whether the link is open. Where it is closed there is no receipt, and nothing else is
  -- done.
  abbrev pub LooksAndAsks : Held × L → Bytes → Option Receipt → Held × L → Type 0
  LooksAndAsks old payload r new =
      (is_open : Bool) × carries old.1 (looked is_open) old.1
      × MatchBool is_open (IsAsked old payload r new) ((r ≡ None) × (new ≡ old))

  -- A call of the service: the answer is the text of the receipt. It refuses where there is no receipt, or
  -- where memory for its text is refused.
  abbrev pub IsCall : Held × L → Bytes → Option Bytes → Held × L → Type 0
  IsCall old payload (Some text) new = (r : Receipt) × (r.text ≡ text) × LooksAndAsks old payload (Some r) new
  IsCall old payload None new = (r : Option Receipt) × LooksAndAsks old payload r new
