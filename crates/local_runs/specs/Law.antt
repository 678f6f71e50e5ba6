-- Local runs of processes, in any interleaving whose premises hold, are a run of the world; so they are linear.
use Rattle.std.specs.Prelude.{ℕ, ◌≡◌, ◌==◌, ◌<◌, true, false, Bool, List, [], ◌∷◌, ◌++◌, map, filter, None, Ok, ◌⊎◌, ◌↔◌}
use Rattle.std.specs.List.{AllByRecursion}
use Rattle.ids.specs.Sizes.{Sizes, AreSizes, client_party}
use Rattle.definitions.specs.Lists.{Among, IsBeginning}
use Rattle.definitions.specs.Keyrings.{Keyring}
use Rattle.definitions.specs.Histories.{History}
use Rattle.definitions.specs.Replicas.{Replica, held_history}
use Rattle.definitions.specs.Sendings.{Sending}
use Rattle.definitions.specs.Sessions.{Session, Receipt}
use Rattle.definitions.specs.Worlds.{World, Sent, AcceptedBy, Happening, new_world, is_correct, is_party, self_of}
use Rattle.definitions.specs.Worlds.{client_of}
use Rattle.definitions.specs.Events.{party_of}
use Rattle.definitions.specs.Runs.{refusal, run, after}
use Rattle.definitions.specs.Premises.{NoForgeryIn, NoForgery, ArePremises}
use Rattle.definitions.specs.Linearity.{answers_in, IsLinearBy}
use Rattle.local_runs.specs.Processes.{Deeds, alone, replica_step, client_step}

-- ---- local runs, and their interleavings

-- what comes to a party, in its order
abbrev pub run_of : ℕ → List Happening → List Happening
run_of p order = filter (λ h. party_of h.0 == p) order

-- the order is an interleaving of these local runs, one for each party
abbrev pub IsInterleaving : (ℕ → List Happening) → List Happening → Type 0
IsInterleaving runs order = (p : ℕ) → run_of p order ≡ runs p

-- An event can come to a process alone where a world in which nothing was sent yet doesn't refuse it: it brings bytes
-- and cites no frame of a record, its party is there, a payload is a canonical request, a digest has its length.
abbrev pub CanComeAlone : World → Happening → Type 0
CanComeAlone start h = refusal start h.0 ≡ None

-- ---- what a world has of each process

-- what a party sent, oldest first
abbrev pub sent_by : ℕ → List Sent → List Sending
sent_by p sent = map (λ s. (s.to, s.frame)) (filter (λ s. s.sender == p) sent)

-- what a client accepted, newest first
abbrev pub accepted_by : ℕ → List AcceptedBy → List Receipt
accepted_by c receipts = map (λ r. r.receipt) (filter (λ r. r.client == c) receipts)

-- all that a world has of a replica
abbrev pub replica_in : World → ℕ → Deeds Replica
replica_in w p = record { state = w.replica p; sent = sent_by p w.sent; accepted = [] }

-- all that it has of a client
abbrev pub client_in : World → ℕ → Deeds Session
client_in w c = record {
  state = w.session c;
  sent = sent_by (client_party c) w.sent;
  accepted = accepted_by c w.receipts;
}

-- ---- what each process comes to alone

-- a replica's local run, from its start
abbrev pub replica_alone : World → (ℕ → List Happening) → ℕ → Deeds Replica
replica_alone start runs p = alone (replica_step (self_of start p)) (runs p) (start.replica p)

-- a client's
abbrev pub client_alone : World → (ℕ → List Happening) → ℕ → Deeds Session
client_alone start runs c = alone (client_step (client_of start c)) (runs (client_party c)) (start.session c)

-- the client is one, and isn't faulty
abbrev pub IsCorrectClient : World → ℕ → Type 0
IsCorrectClient start c = (c < start.sizes.clients) × (start.is_faulty (client_party c) ≡ false)

-- A world has of each correct process just what that comes to alone, and of nobody else anything.
pub record IsOfProcesses (start : World) (runs : ℕ → List Happening) (last : World) : Type 0 where
  pub replicas : (p : ℕ) → is_correct start p ≡ true → replica_in last p ≡ replica_alone start runs p
  pub clients : (c : ℕ) → IsCorrectClient start c → client_in last c ≡ client_alone start runs c
  pub senders : (s : Sent) → Among s last.sent
      → (is_party start s.sender ≡ true) × (start.is_faulty s.sender ≡ false)
  pub acceptors : (r : AcceptedBy) → Among r last.receipts → IsCorrectClient start r.client

-- What each correct replica executed alone is a beginning of this history, and what each correct client accepted alone
-- is the sequential cache's reply there.
pub record IsTheirHistory (start : World) (runs : ℕ → List Happening) (h : History) : Type 0 where
  pub executed : (p : ℕ) → is_correct start p ≡ true → IsBeginning (held_history (replica_alone start runs p).state) h
  pub accepted : (c : ℕ) (r : Receipt) → IsCorrectClient start c → Among r (client_alone start runs c).accepted
      → Among (record { client = c; seq = r.seq; place = r.place; text = r.text }) (answers_in start h)

-- ---- the laws

-- P holds of a new world, whatever comes to each process alone, and of each interleaving
abbrev pub OfEachInterleaving : (World → (ℕ → List Happening) → List Happening → Type 0) → Type 0
OfEachInterleaving P =
    (sizes : Sizes) (is_faulty : ℕ → Bool) (ring : ℕ → Keyring) (runs : ℕ → List Happening) (order : List Happening)
    → AreSizes sizes
    → ((p : ℕ) → AllByRecursion (CanComeAlone (new_world sizes is_faulty ring)) (runs p))
    → IsInterleaving runs order → P (new_world sizes is_faulty ring) runs order

-- Local runs in any interleaving are a run of the world: it refuses nothing, and has of each process what that comes to
-- alone. So it has at each moment, by what came to each so far.
abbrev pub ProcessesAreARun : Type 0
ProcessesAreARun =
    OfEachInterleaving
    (λ start runs order.
    (last : World) × (run start order ≡ Ok last) × IsOfProcesses start runs last
    × ((before later : List Happening) → before ++ later ≡ order
    → IsOfProcesses start (λ p. run_of p before) (after start before)))

-- So, where the premises of linear runs hold of the interleaving, it is linear: one history is that of all processes.
abbrev pub ProcessesAreLinear : Type 0
ProcessesAreLinear =
    OfEachInterleaving
    (λ start runs order.
    ArePremises start order → (last : World) × (run start order ≡ Ok last) × IsOfProcesses start runs last
    × ((h : History) × IsLinearBy last h × IsTheirHistory start runs h))

-- its sender's process sent the frame alone
abbrev pub IsSentAlone : World → (ℕ → List Happening) → Sent → Type 0
IsSentAlone start runs s =
    ((is_correct start s.sender ≡ true) × Among (s.to, s.frame) (replica_alone start runs s.sender).sent)
    ⊎ ((c : ℕ) × IsCorrectClient start c × (s.sender ≡ client_party c)
    × Among (s.to, s.frame) (client_alone start runs c).sent)

-- No event of the interleaving brings a forged tag beside some frames that processes sent alone, each by what had come
-- to it before.
abbrev pub NoneForges : World → List Happening → Type 0
NoneForges start order =
    (before later : List Happening) (h : Happening) → before ++ h ∷ later ≡ order
    → (sent : List Sent) × AllByRecursion (IsSentAlone start (λ p. run_of p before)) sent
    × NoForgeryIn (record start { sent = sent }) h.0

-- Whether a tag is forged is seen of the processes: no record is needed but what each sent alone.
abbrev pub ForgeryIsSeenAlone : Type 0
ForgeryIsSeenAlone = OfEachInterleaving (λ start runs order. NoForgery start order ↔ NoneForges start order)

-- And no run is another one: each whose premises hold ends as one in which all comes as bytes to processes, whose
-- premises hold too.
abbrev pub RunsAreOfProcesses : Type 0
RunsAreOfProcesses =
    (sizes : Sizes) (is_faulty : ℕ → Bool) (ring : ℕ → Keyring) (hs : List Happening) (last : World)
    → ArePremises (new_world sizes is_faulty ring) hs → run (new_world sizes is_faulty ring) hs ≡ Ok last
    → (order : List Happening) × AllByRecursion (CanComeAlone (new_world sizes is_faulty ring)) order
    × ArePremises (new_world sizes is_faulty ring) order × (run (new_world sizes is_faulty ring) order ≡ Ok last)
