-- The laws of every run, as clauses.
use Rattle.std.specs.Prelude.{ℕ, ◌≡◌, ◌≢◌, ◌<◌, ◌≤◌, ◌^◌, Bool, true, List, [], ◌∷◌, length, Option, Some, Ok, ⊤}
use Rattle.std.specs.Prelude.{slice_get}
use Rattle.std.specs.List.{AllByRecursion}
use Rattle.ids.specs.declared.fault.Fault.TheVariants as fault
use Rattle.ids.specs.Sizes.{Sizes, AreSizes}
use Rattle.definitions.specs.Keyrings.{Keyring}
use Rattle.definitions.specs.Lists.{Among, IsBeginning}
use Rattle.definitions.specs.FrameLimits.{IsReadAs, IsWritten, IsCertificate}
use Rattle.definitions.specs.Digests.{digest_of}
use Rattle.definitions.specs.Checks.{Identity}
use Rattle.definitions.specs.Grounds.{IsKept}
use Rattle.definitions.specs.States.{Justified, raised, qc_high}
use Rattle.definitions.specs.Chronicles.{Step, Chronicle, IsLawful}
use Rattle.definitions.specs.Agreement.{Family, IsLawfulFamily}
use Rattle.definitions.specs.Worlds.{World, Sent, AcceptedBy, Event, relay, inject, offer, gather, Happening}
use Rattle.definitions.specs.Worlds.{Source, of_record, of_bytes, new_world}
use Rattle.definitions.specs.Worlds.{is_correct, self_of}
use Rattle.definitions.specs.Frames.{Command, Frame, spelling}
use Rattle.definitions.specs.Frames as frame
use Rattle.definitions.specs.Histories.{Entry}
use Rattle.definitions.specs.Runs.{run}
use Rattle.definitions.specs.Sessions.{Client, Doing, session_behind, session_at_end, requests_of}
use Rattle.definitions.specs.Events.{happens}
use Rattle.definitions.specs.Premises.{IsFor, AllRead, NoForgery, ArePremises}
use Rattle.definitions.specs.Linearity.{WasSubmitted, IsLinear}

-- P holds at the end of each run whose premises hold and that refuses no event
abbrev pub AfterEachRun : (World → Type 0) → Type 0
AfterEachRun P =
    (sizes : Sizes) (is_faulty : ℕ → Bool) (ring : ℕ → Keyring) (hs : List Happening) (last : World) →
    ArePremises (new_world sizes is_faulty ring) hs → run (new_world sizes is_faulty ring) hs ≡ Ok last
    → P last

-- the chronicles of the correct replicas
abbrev pub correct_family : World → Family
correct_family w =
    record { sizes = w.sizes; is_member = is_correct w; chronicle = λ i. (w.replica i).chronicle }

-- a correct replica's chronicle is lawful
abbrev pub AreLawful : World → Type 0
AreLawful w = (i : ℕ) → is_correct w i ≡ true → IsLawful w.sizes (w.replica i).chronicle

-- no event was answered with a conflict
abbrev pub NoneConflicts : World → Type 0
NoneConflicts w = AllByRecursion (λ answer. answer ≢ Some fault.Conflict) w.answers

-- each such run is linear
abbrev pub EveryRunIsLinear : Type 0
EveryRunIsLinear = AfterEachRun IsLinear

-- each correct replica's chronicle is lawful at its end
abbrev pub ChroniclesAreLawful : Type 0
ChroniclesAreLawful = AfterEachRun AreLawful

-- the correct replicas' chronicles are an orderly family at its end
abbrev pub ChroniclesAreAFamily : Type 0
ChroniclesAreAFamily = AfterEachRun (λ w. IsLawfulFamily (correct_family w))

-- no event of it was answered with a conflict
abbrev pub NoEventConflicts : Type 0
NoEventConflicts = AfterEachRun NoneConflicts

-- each frame that a correct party sent is one that version 2 spells at the world's sizes: a certificate in
-- it has no votes, or exactly a quorum
abbrev pub SentAreFrames : World → Type 0
SentAreFrames w = (s : Sent) → Among s w.sent → IsWritten w.sizes s.frame

-- so is each frame of each such run
abbrev pub SentFramesAreFrames : Type 0
SentFramesAreFrames = AfterEachRun SentAreFrames

-- each correct replica has its own keys
abbrev pub HaveOwnKeys : World → Type 0
HaveOwnKeys w = (p : ℕ) → is_correct w p ≡ true → (w.ring p).party ≡ p

-- so is each frame of each run of fewer than 2^63 events, whatever tags are forged and whatever cores
-- collide in it
abbrev pub AnySentFramesAreFrames : Type 0
AnySentFramesAreFrames =
    (sizes : Sizes) (is_faulty : ℕ → Bool) (ring : ℕ → Keyring) (hs : List Happening) (last : World)
    → length hs < 2 ^ 63 →
    HaveOwnKeys (new_world sizes is_faulty ring) → AllRead sizes hs
    → run (new_world sizes is_faulty ring) hs ≡ Ok last → SentAreFrames last

-- the bytes of each frame that a correct party sent are read as that frame
abbrev pub AreReadAsSent : World → Type 0
AreReadAsSent w =
    (s : Sent) (read : Option Frame) → Among s w.sent → IsReadAs w.sizes (spelling s.frame) read
    → read ≡ Some s.frame

-- so are those of each such run
abbrev pub SentFramesAreRead : Type 0
SentFramesAreRead = AfterEachRun (λ w. AreSizes w.sizes → AreReadAsSent w)

-- a certificate at the replica's sizes, for its block; where that isn't genesis, it is good for the replica,
-- or has no votes
pub record IsCertified (self : Identity) (j : Justified) : Type 0 where
  pub certificate : IsCertificate self.sizes j.certificate
  pub digest : j.certificate.digest ≡ digest_of j.block
  pub kept : 0 < length j.block → IsKept self j.certificate

-- each certificate that a step brought, or completed by the last vote of a quorum, is one; so is the
-- highest, and it is good or has no votes
pub record HasCertificates (self : Identity) (c : Chronicle) : Type 0 where
  pub each : (s : Step) (earlier : Chronicle) (j : Justified) → IsBeginning (s ∷ earlier) c
      → raised self.sizes s earlier ≡ Some j → IsCertified self j
  pub highest : IsCertified self (qc_high self.sizes c)
  pub kept : IsKept self (qc_high self.sizes c).certificate

-- each correct replica has such certificates at the end of each such run
abbrev pub MadeCertificatesAreCertificates : Type 0
MadeCertificatesAreCertificates =
    AfterEachRun
    (λ w. (i : ℕ) → is_correct w i ≡ true → HasCertificates (self_of w i) (w.replica i).chronicle)

-- P holds at the end of each run that refuses no event, whatever is faulty, forged or collides in it
abbrev pub AfterAnyRun : (World → Type 0) → Type 0
AfterAnyRun P =
    (sizes : Sizes) (is_faulty : ℕ → Bool) (ring : ℕ → Keyring) (hs : List Happening) (last : World)
    → run (new_world sizes is_faulty ring) hs ≡ Ok last → P last

-- two recorded requests of one sender and one seq are the same: of one event, with one payload
abbrev pub RequestsDiffer : World → Type 0
RequestsDiffer w =
    (s t : Sent) (c d : Command) → Among s w.sent → Among t w.sent → s.frame ≡ frame.request c
    → t.frame ≡ frame.request d
    → s.sender ≡ t.sender → c.seq ≡ d.seq → s ≡ t

-- no two submissions of a client have one seq
abbrev pub NoSeqIsGivenTwice : Type 0
NoSeqIsGivenTwice = AfterAnyRun RequestsDiffer

-- A client that goes on behind a number which its first life didn't pass gives numbers above all that it gave.
abbrev pub NoSeqIsGivenAgain : Type 0
NoSeqIsGivenAgain =
    (me : Client) (first second : List Doing) (start behind : ℕ) (c d : Command)
    → (session_at_end me first (session_behind start)).used ≤ behind
    → Among (frame.request c) (requests_of me first (session_behind start))
    → Among (frame.request d) (requests_of me second (session_behind behind)) → c.seq < d.seq

-- The client of the receipt submitted a command of its seq before it was accepted, and no other one of that
-- seq.
pub record NamesOneCommand (w : World) (r : AcceptedBy) : Type 0 where
  pub entry : Entry
  pub event : ℕ
  pub client : entry.client ≡ r.client
  pub seq : entry.seq ≡ r.receipt.seq
  pub submitted : WasSubmitted w entry event
  pub before : event < r.event
  pub alone : (e : Entry) (n : ℕ) → e.client ≡ r.client → e.seq ≡ r.receipt.seq → WasSubmitted w e n
      → (e ≡ entry) × (n ≡ event)

-- each accepted receipt names one submitted command
abbrev pub ReceiptsNameCommands : Type 0
ReceiptsNameCommands = AfterAnyRun (λ w. (r : AcceptedBy) → Among r w.receipts → NamesOneCommand w r)

-- a source is a recorded frame that was sent to this party
abbrev pub IsDeliveredFrom : World → ℕ → Source → Type 0
IsDeliveredFrom w to (of_record k) = (s : Sent) → slice_get w.sent k ≡ Some s → IsFor to s.to s.frame
IsDeliveredFrom w to (of_bytes bytes read) = ⊥

-- a recorded frame comes to a party that it was sent to, and no bytes are invented
abbrev pub IsDelivered : World → Event → Type 0
IsDelivered w (relay k to) = IsDeliveredFrom w to (of_record k)
IsDelivered w (inject to bytes read) = ⊥
IsDelivered w (offer to source) = IsDeliveredFrom w to source
IsDelivered w (gather to sources) = AllByRecursion (IsDeliveredFrom w to) sources
IsDelivered w e = ⊤

-- so do all of a schedule
abbrev pub AllDelivered : World → List Happening → Type 0
AllDelivered w [] = ⊤
AllDelivered w (h ∷ hs) = IsDelivered w h.0 × AllDelivered (happens w h) hs

-- In a run in which recorded frames alone come, each to a party that it was sent to, no tag is forged, if
-- each correct replica has its own keys.
abbrev pub DeliveriesForgeNothing : Type 0
DeliveriesForgeNothing =
    (sizes : Sizes) (is_faulty : ℕ → Bool) (ring : ℕ → Keyring) (hs : List Happening) (last : World)
    → HaveOwnKeys (new_world sizes is_faulty ring)
    → AllDelivered (new_world sizes is_faulty ring) hs → run (new_world sizes is_faulty ring) hs ≡ Ok last
    → AllRead sizes hs × NoForgery (new_world sizes is_faulty ring) hs
