-- Never wedged: from the end of any run, whatever at most f faulty replicas and any clients did in it, one schedule that is
-- computed from the world brings a waiting correct client its receipt: `Healing.heal`, of correct parties' events alone. Each
-- correct replica has to run still, with room left in its tree; that a faulty one can't use that up is the server's doorkeeper's
-- to see to. It says nothing of time: that such events come about, and without others in between, isn't claimed.
--
-- Who reads the statement needs this file, `Healing` and `Correct`. The others have its steps.
use Rattle.ids.specs.declared.limits.TheConstants.{MOST_BLOCKS, MOST_OF_HEIGHT, HEIGHT_LIMIT, BELOW_HORIZON}
use Rattle.std.specs.Prelude.{ℕ, ◌+◌, ◌-◌, ◌^◌, ◌≡◌, ◌<◌, ◌≤◌, ◌==◌, ◌⊎◌, true, false, Bool, List, [], ◌∷◌}
use Rattle.std.specs.Prelude.{◌++◌, length}
use Rattle.std.specs.Prelude.{count_by, Some, slice_get, Ok}
use Rattle.ids.specs.Sizes.{Sizes, AreSizes, replicas, client_party}
use Rattle.definitions.specs.Lists.{Among}
use Rattle.definitions.specs.Branches.{Branch, Extends}
use Rattle.definitions.specs.Careful.{AreCareful}
use Rattle.definitions.specs.Chronicles.{window, horizon, executed}
use Rattle.definitions.specs.Frames.{Command}
use Rattle.definitions.specs.Frames as frame
use Rattle.definitions.specs.Keyrings.{Keyring}
use Rattle.definitions.specs.Premises.{ArePremises}
use Rattle.definitions.specs.Runs.{run}
use Rattle.definitions.specs.Bytes.{Bytes}
use Rattle.definitions.specs.Canonical.{is_canonical}
use Rattle.definitions.specs.Worlds.{World, Sent, AcceptedBy, Event.submit, Happening, new_world}
use Rattle.recovery.specs.Correct.{OfCorrect, AllGoOn, ShareKeys, chronicle_of, lock_of, view_of, correct_replicas}
use Rattle.recovery.specs.Correct.{correct_with, amply}
use Rattle.linear_law.specs.Law.{AfterEachRun}
use Rattle.recovery.specs.Healing.{Phase, highest_locked, highest_voted, over_lock, heal}

-- P holds of each world in which a run ends, where the premises hold of the run that this phase is behind
abbrev pub AheadOf : Phase → (World → Type 0) → Type 0
AheadOf phase P =
    (sizes : Sizes) (is_faulty : ℕ → Bool) (ring : ℕ → Keyring) (hs : List Happening) (w : World)
    → ArePremises (new_world sizes is_faulty ring) (hs ++ phase w) → run (new_world sizes is_faulty ring) hs ≡ Ok w
    → P w

-- the leader of a world's healing
abbrev pub healer : World → ℕ
healer w = highest_locked w (correct_replicas w)

-- what justifies its lock
abbrev pub ground_of : World → Branch
ground_of w = over_lock (healer w) w

-- a correct replica's view is more than n below the greatest of all
abbrev pub HasViews : World → Type 0
HasViews w = OfCorrect w (λ r. view_of w r + replicas w.sizes < 2 ^ 64)

-- how many blocks healing makes, at most: those above all votes, two more since who begins may vote at height 1, three that
-- decide, and one on genesis
abbrev pub blocks_made : World → ℕ
blocks_made w = (highest_voted w (correct_replicas w) - length (lock_of w (healer w))) + 6

-- There is room in each correct replica's tree, above all that it executed, for the blocks that healing brings and
-- makes: two of each height, and none too high.
pub record HasRoom (w : World) : Type 0 where
  pub trees : OfCorrect w (λ r.
      length (window (chronicle_of w r))
      + ((length (ground_of w) - length (executed (chronicle_of w r))) + blocks_made w)
      ≤ MOST_BLOCKS)
  pub heights : OfCorrect w (λ r. (h : ℕ) → length (executed (chronicle_of w r)) < h
      → count_by (λ x. length x == h) (window (chronicle_of w r)) + 2 ≤ MOST_OF_HEIGHT)
  pub low : length (lock_of w (healer w)) + blocks_made w < HEIGHT_LIMIT

-- no correct replica was given leave to forget
abbrev pub NobodyPruned : World → Type 0
NobodyPruned w = OfCorrect w (λ r. horizon (chronicle_of w r) ≡ 0)

-- Each correct replica voted carefully, as the running server's do, and none is left behind: what it lacks up to the block
-- that justifies the leader's lock, in its own reach, more than f correct ones still have.
pub record PrunedWell (w : World) : Type 0 where
  pub careful : OfCorrect w (λ r. AreCareful (chronicle_of w r))
  pub held : OfCorrect w (λ r. (x : Branch) → Extends (ground_of w) x
      → horizon (chronicle_of w r) ≤ length x + BELOW_HORIZON
      → Among x (window (chronicle_of w r)) ⊎ (w.sizes.faults < correct_with w window x))

-- What is assumed of a world that is to be healed: correct parties share keys, and all correct replicas go on; views and room
-- are left; and nobody pruned what others lack.
pub record MayHeal (w : World) : Type 0 where
  pub keys : ShareKeys w
  pub goes : AllGoOn w
  pub views : HasViews w
  pub room : HasRoom w
  pub kept : NobodyPruned w ⊎ PrunedWell w

-- A correct client waits, and frame k of the record is its request.
pub record IsAsked (w : World) (k client : ℕ) : Type 0 where
  pub client_is : client < w.sizes.clients
  pub correct : w.is_faulty (client_party client) ≡ false
  pub waits : (w.session client).waiting ≡ true
  pub sent : Sent
  pub command : Command
  pub recorded : slice_get w.sent k ≡ Some sent
  pub sender : sent.sender ≡ client_party client
  pub request : sent.frame ≡ frame.request command
  pub seq : command.seq ≡ (w.session client).used

-- so it is of each correct client that waits
abbrev pub WaitingClientsAsked : Type 0
WaitingClientsAsked =
    AfterEachRun (λ w. (client : ℕ) → client < w.sizes.clients → w.is_faulty (client_party client) ≡ false
    → (w.session client).waiting ≡ true → (k : ℕ) × IsAsked w k client)

-- a request of the record names the client that sent it
abbrev pub RequestsNameClients : Type 0
RequestsNameClients =
    AfterEachRun (λ w. (s : Sent) → Among s w.sent → (c : Command) → s.frame ≡ frame.request c
    → s.sender ≡ client_party c.client)

-- the client has a receipt for its request of this number
abbrev pub IsAnswered : World → ℕ → ℕ → Type 0
IsAnswered w client seq =
    (r : AcceptedBy) × Among r w.receipts × (r.client ≡ client) × (r.receipt.seq ≡ seq)

-- healing names only parties and frames that are there, all correct replicas go on, and the client has its receipt
abbrev pub HealingAnswers : (k client : ℕ) → World → Type 0
HealingAnswers k client w =
    (last : World) × (run w (heal k w) ≡ Ok last) × AllGoOn last × IsAnswered last client (w.session client).used

-- After any run whose premises hold, together with what heals it: where the world may be healed, and frame k is what a
-- correct client that waits asked, healing answers that client.
abbrev pub NeverWedged : Type 0
NeverWedged =
    (k client : ℕ) → AheadOf (heal k) (λ w. AreSizes w.sizes → MayHeal w → IsAsked w k client
    → HealingAnswers k client w)

-- What it asks of a world can be met: so it is where a correct client made the first request of all, whoever is faulty.
abbrev pub FirstRequestsMayHeal : Type 0
FirstRequestsMayHeal =
    (sizes : Sizes) (is_faulty : ℕ → Bool) (ring : ℕ → Keyring) (client : ℕ) (payload : Bytes) → AreSizes sizes
    → ShareKeys (new_world sizes is_faulty ring) → client < sizes.clients
    → is_faulty (client_party client) ≡ false → is_canonical payload ≡ true
    → (w : World) × (run (new_world sizes is_faulty ring) (amply (submit client payload ∷ [])) ≡ Ok w) × MayHeal w
    × IsAsked w 0 client
