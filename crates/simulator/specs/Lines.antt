-- The lines of a schedule, without the LF that ends them.
use Rattle.std.specs.Prelude.{◌≡◌, ◌≢◌, ◌^◌, ◌<◌, ◌++◌, ℕ, List, codes, decimal, length, nat_eq, Vec}
use Rattle.std.specs.Prelude.{Option, Some, None}
use Rattle.std.specs.Global.{Global}
use Rattle.std.specs.List.{All, IsDistinct, flat_map}
use Rattle.hex.specs.Hex.{encode_lower, IsBytes}
use Rattle.definitions.specs.Bytes.{Bytes}
use Rattle.simulator.specs.Texts.{IsBelow, party_text, spaced, behind_word}
use Rattle.run_report.specs.Names.{replica_text, client_text}
use Rattle.world_schedule.specs.declared.event.Event.{Event}
use Rattle.world_schedule.specs.declared.event.Event.TheVariants.{Submit, Relay, Inject, Timeout, Beat}
use Rattle.world_schedule.specs.declared.event.Event.TheVariants.{Prune, Offer, Gather, Lead, Ask}
use Rattle.world_schedule.specs.declared.event.Source.{Source}
use Rattle.world_schedule.specs.declared.event.Source.TheVariants.{Record, Bytes as SomeBytes}
use Rattle.simulator.specs.declared.lines.Heading.{Heading}

-- parties, each once, and each behind a space
abbrev pub AreParties : List ℕ → Type 0
AreParties parties = All (IsBelow 512) parties × IsDistinct nat_eq parties

abbrev pub parties_text : List ℕ → Bytes
parties_text parties = flat_map (λ party. codes " " ++ party_text party) parties

-- the first line: how many faulty replicas are tolerated, how many clients there are, and the faulty parties
abbrev pub IsHeading : Heading → Type 0
IsHeading h = (h.faults < 2 ^ 64) × (h.clients < 2 ^ 64) × AreParties h.faulty.items

abbrev pub heading_text : Heading → Bytes
heading_text h =
    codes "world " ++ spaced (decimal h.faults) (decimal h.clients ++ parties_text h.faulty.items)

-- what is read of the first line in front of the parties: both sizes, and the rest of the line
abbrev pub AreSizesOf : Bytes → Option (ℕ × ℕ × Option Bytes) → Type 0
AreSizesOf words None = (h : Heading) → IsHeading h → heading_text h ≢ words
AreSizesOf words (Some s) =
    (s.0 < 2 ^ 64) × (s.1 < 2 ^ 64)
    × (words ≡ codes "world " ++ spaced (decimal s.0) (decimal s.1 ++ behind_word s.2))

-- a client or a party, and digits behind it
abbrev pub AreDigitsOfClient : ℕ × Bytes → Type 0
AreDigitsOfClient d = (d.0 < 256) × (0 < length d.1)

abbrev pub digits_of_client : ℕ × Bytes → Bytes
digits_of_client d = spaced (client_text d.0) d.1

abbrev pub AreDigitsOfParty : ℕ × Bytes → Type 0
AreDigitsOfParty d = d.0 < 512

abbrev pub digits_of_party : ℕ × Bytes → Bytes
digits_of_party d = spaced (party_text d.0) d.1

-- a client, and the payload that it submits
abbrev pub IsSubmission : ℕ × Vec ℕ Global → Type 0
IsSubmission s = (s.0 < 256) × IsBytes s.1.items × (0 < length s.1.items)

abbrev pub submission_text : ℕ × Vec ℕ Global → Bytes
submission_text s = spaced (client_text s.0) (encode_lower s.1.items)

-- a party, and the bytes that are brought to it
abbrev pub IsInjection : ℕ × Vec ℕ Global → Type 0
IsInjection i = (i.0 < 512) × IsBytes i.1.items

abbrev pub injection_text : ℕ × Vec ℕ Global → Bytes
injection_text i = spaced (party_text i.0) (encode_lower i.1.items)

-- a frame, and the party that it is brought to
abbrev pub IsDelivery : ℕ × ℕ → Type 0
IsDelivery d = (d.0 < 2 ^ 64) × (d.1 < 512)

abbrev pub delivery_text : ℕ × ℕ → Bytes
delivery_text d = spaced (decimal d.0) (party_text d.1)

-- a replica, and the height up to which it may prune
abbrev pub IsPruning : ℕ × ℕ → Type 0
IsPruning p = (p.0 < 256) × (p.1 < 2 ^ 64)

abbrev pub pruning_text : ℕ × ℕ → Bytes
pruning_text p = spaced (replica_text p.0) (decimal p.1)

-- a frame of the record, and the replica that it is offered to
abbrev pub IsOffer : ℕ × ℕ → Type 0
IsOffer o = (o.0 < 2 ^ 64) × (o.1 < 256)

abbrev pub offer_text : ℕ × ℕ → Bytes
offer_text o = spaced (decimal o.0) (replica_text o.1)

-- a replica, and digits behind it
abbrev pub AreDigitsOfReplica : ℕ × Bytes → Type 0
AreDigitsOfReplica d = d.0 < 256

abbrev pub digits_of_replica : ℕ × Bytes → Bytes
digits_of_replica d = spaced (replica_text d.0) d.1

-- a replica, and the bytes that are offered to it
abbrev pub AreOffered : ℕ × Vec ℕ Global → Type 0
AreOffered o = (o.0 < 256) × IsBytes o.1.items

abbrev pub offered_text : ℕ × Vec ℕ Global → Bytes
offered_text o = spaced (replica_text o.0) (encode_lower o.1.items)

-- where a frame comes from: its number in the record, or bytes behind the letter x
abbrev pub IsSource : Source → Type 0
IsSource (Record frame) = frame < 2 ^ 64
IsSource (SomeBytes bytes) = IsBytes bytes.items

abbrev pub source_text : Source → Bytes
source_text (Record frame) = decimal frame
source_text (SomeBytes bytes) = codes "x" ++ encode_lower bytes.items

-- sources, each behind a space
abbrev pub sources_text : List Source → Bytes
sources_text sources = flat_map (λ source. codes " " ++ source_text source) sources

-- a replica, and the sources of the frames that come to it together
abbrev pub IsGathering : ℕ × Vec Source Global → Type 0
IsGathering g = (g.0 < 256) × All IsSource g.1.items × (0 < length g.1.items)

abbrev pub gathering_text : ℕ × Vec Source Global → Bytes
gathering_text g = replica_text g.0 ++ sources_text g.1.items

-- a digest is thirty-two bytes
abbrev pub IsDigest : Bytes → Type 0
IsDigest digest = IsBytes digest × (length digest ≡ 32)

-- a replica, and the block that it is to lead from
abbrev pub IsLead : ℕ × Bytes → Type 0
IsLead l = (l.0 < 256) × IsDigest l.1

abbrev pub lead_text : ℕ × Bytes → Bytes
lead_text l = spaced (replica_text l.0) (encode_lower l.1)

-- a replica, whom it is to ask, and for which block
abbrev pub IsQuestion : ℕ × ℕ × Bytes → Type 0
IsQuestion q = (q.0 < 256) × IsLead (q.1, q.2)

abbrev pub question_text : ℕ × ℕ × Bytes → Bytes
question_text q = spaced (replica_text q.0) (lead_text (q.1, q.2))

-- a timeout or a beat
abbrev pub IsTimer : Event → Type 0
IsTimer (Timeout replica) = replica < 256
IsTimer (Beat replica) = replica < 256
IsTimer event = ⊥

-- an event that brings nothing
abbrev pub IsQuiet : Event → Type 0
IsQuiet (Prune replica height) = IsPruning (replica, height)
IsQuiet (Lead replica block) = IsLead (replica, block)
IsQuiet (Ask replica to block) = IsQuestion (replica, to, block)
IsQuiet event = IsTimer event

-- an event whose line has no bytes
abbrev pub IsBare : Event → Type 0
IsBare (Relay frame to) = IsDelivery (frame, to)
IsBare (Offer to (Record frame)) = IsOffer (frame, to)
IsBare event = IsQuiet event

-- another line: an event
abbrev pub IsEvent : Event → Type 0
IsEvent (Submit client payload) = IsSubmission (client, payload)
IsEvent (Inject to bytes) = IsInjection (to, bytes)
IsEvent (Offer to (SomeBytes bytes)) = AreOffered (to, bytes)
IsEvent (Gather to sources) = IsGathering (to, sources)
IsEvent event = IsBare event

abbrev pub event_text : Event → Bytes
event_text (Submit client payload) = codes "submit " ++ submission_text (client, payload)
event_text (Relay frame to) = codes "relay " ++ delivery_text (frame, to)
event_text (Inject to bytes) = codes "inject " ++ injection_text (to, bytes)
event_text (Timeout replica) = codes "timeout " ++ replica_text replica
event_text (Beat replica) = codes "beat " ++ replica_text replica
event_text (Prune replica height) = codes "prune " ++ pruning_text (replica, height)
event_text (Offer to (Record frame)) = codes "offer " ++ offer_text (frame, to)
event_text (Offer to (SomeBytes bytes)) = codes "offer-bytes " ++ offered_text (to, bytes)
event_text (Gather to sources) = codes "gather " ++ gathering_text (to, sources)
event_text (Lead replica block) = codes "lead " ++ lead_text (replica, block)
event_text (Ask replica to block) = codes "ask " ++ question_text (replica, to, block)
