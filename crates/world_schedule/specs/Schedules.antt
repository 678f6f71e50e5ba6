-- The events of a schedule, as the definitions have them.
use Rattle.ids.specs.declared.fault.Fault.{Fault}
use Rattle.ids.specs.declared.fault.Fault.TheVariants as fault
use Rattle.std.specs.Prelude.{ℕ, ◌≡◌, ◌==◌, ◌&&◌, Bool, true, not, nat_lt, if◌then◌else◌, List, [], ◌∷◌, ◌++◌}
use Rattle.std.specs.Prelude.{length, Option, Some, None, Ok, ⊤}
use Rattle.std.specs.List.{list_all}
use Rattle.ids.specs.Sizes.{Sizes, client_party}
use Rattle.definitions.specs.Frames.{Frame}
use Rattle.definitions.specs.Canonical.{is_canonical}
use Rattle.definitions.specs.Keyrings.{is_replica_of, is_party_of}
use Rattle.definitions.specs.Worlds as worlds
use Rattle.definitions.specs.Worlds.{World, Happening}
use Rattle.definitions.specs.Runs.{refusal, run}
use Rattle.definitions.specs.Premises.{IsReadIn}
use Rattle.world_schedule.specs.declared.event.Event.{Event}
use Rattle.world_schedule.specs.declared.event.Event.TheVariants.{Submit, Relay, Inject, Timeout, Beat}
use Rattle.world_schedule.specs.declared.event.Event.TheVariants.{Prune, Offer, Gather, Lead, Ask}
use Rattle.world_schedule.specs.declared.event.Source.{Source}
use Rattle.world_schedule.specs.declared.event.Source.TheVariants.{Record, Bytes as SomeBytes}
use Rattle.world_schedule.specs.Settings.{Setting, start_of}

-- the party that an event names
abbrev pub party_named : Event → ℕ
party_named (Submit client payload) = client_party client
party_named (Relay frame to) = to
party_named (Inject to bytes) = to
party_named (Timeout replica) = replica
party_named (Beat replica) = replica
party_named (Prune replica height) = replica
party_named (Offer to source) = to
party_named (Gather to sources) = to
party_named (Lead replica block) = replica
party_named (Ask replica to block) = replica

-- the first of what is read, if anything is
abbrev pub first_read : List (Option Frame) → Option Frame
first_read [] = None
first_read (read ∷ reads) = read

-- a source, where its bytes are read as this frame, or as none
abbrev pub source_of : Option Frame → Source → worlds.Source
source_of read (Record frame) = worlds.of_record frame
source_of read (SomeBytes bytes) = worlds.of_bytes bytes.items read

-- sources, where one after the other is read so
abbrev pub sources_of : List (Option Frame) → List Source → List worlds.Source
sources_of reads [] = []
sources_of [] (s ∷ ss) = source_of None s ∷ sources_of [] ss
sources_of (read ∷ reads) (s ∷ ss) = source_of read s ∷ sources_of reads ss

-- the event, where what it brings is read so
abbrev pub event_of : List (Option Frame) → Event → worlds.Event
event_of reads (Submit client payload) = worlds.submit client payload.items
event_of reads (Relay frame to) = worlds.relay frame to
event_of reads (Inject to bytes) = worlds.inject to bytes.items (first_read reads)
event_of reads (Timeout replica) = worlds.timeout replica
event_of reads (Beat replica) = worlds.beat replica
event_of reads (Prune replica height) = worlds.prune replica height
event_of reads (Offer to source) = worlds.offer to (source_of (first_read reads) source)
event_of reads (Gather to sources) = worlds.gather to (sources_of reads sources.items)
event_of reads (Lead replica block) = worlds.lead replica block
event_of reads (Ask replica to block) = worlds.ask replica to block

-- the party that it names is there
abbrev pub has_party : Sizes → Event → Bool
has_party sizes (Submit client payload) = nat_lt client sizes.clients
has_party sizes (Relay frame to) = is_party_of sizes to
has_party sizes (Inject to bytes) = is_party_of sizes to
has_party sizes (Timeout replica) = is_replica_of sizes replica
has_party sizes (Beat replica) = is_replica_of sizes replica
has_party sizes (Prune replica height) = is_replica_of sizes replica
has_party sizes (Offer to source) = is_replica_of sizes to
has_party sizes (Gather to sources) = is_replica_of sizes to
has_party sizes (Lead replica block) = is_replica_of sizes replica
has_party sizes (Ask replica to block) = is_replica_of sizes replica && is_replica_of sizes to

-- the frame of a source is one of so many, if it comes from the record
abbrev pub has_source : ℕ → Source → Bool
has_source sent (Record frame) = nat_lt frame sent
has_source sent (SomeBytes bytes) = true

-- the frame that it names is one of so many
abbrev pub has_frame : ℕ → Event → Bool
has_frame sent (Relay frame to) = nat_lt frame sent
has_frame sent (Offer to source) = has_source sent source
has_frame sent (Gather to sources) = list_all (has_source sent) sources.items
has_frame sent event = true

-- what it submits is a request, and what it asks for is as long as a digest
abbrev pub has_request : Event → Bool
has_request (Submit client payload) = is_canonical payload.items
has_request (Ask replica to block) = length block == 32
has_request event = true

-- why it is refused where so many frames were sent
abbrev pub why_refused : Sizes → ℕ → Event → Option Fault
why_refused sizes sent event =
    if not (has_party sizes event) then Some fault.NoSuchParty
    else (if not (has_frame sent event) then Some fault.NoSuchFrame
    else (if not (has_request event) then Some fault.NotARequest else None))

-- it is this event, all bytes read as the frames that they spell
abbrev pub IsEventOf : Sizes → Event → worlds.Event → Type 0
IsEventOf sizes event e =
    (reads : List (Option Frame)) × IsReadIn sizes (event_of reads event) × (e ≡ event_of reads event)

-- the happenings are these events in their order, each with some choice of memory
abbrev pub AreThese : Sizes → List Event → List Happening → Type 0
AreThese sizes [] [] = ⊤
AreThese sizes (event ∷ events) (h ∷ hs) = IsEventOf sizes event h.0 × AreThese sizes events hs
AreThese sizes [] (h ∷ hs) = ⊥
AreThese sizes (event ∷ events) [] = ⊥

-- The definitions' run goes through a beginning of the schedule, and refuses the event behind it for this.
pub record IsRefusedFor (s : Setting) (events : List Event) (n : Fault) : Type 0 where
  pub these : List Event
  pub event : Event
  pub others : List Event
  pub events_are : events ≡ these ++ event ∷ others
  pub happenings : List Happening
  pub are_these : AreThese s.sizes these happenings
  pub world : World
  pub ends : run (start_of s) happenings ≡ Ok world
  pub refused : refusal world (event_of [] event) ≡ Some n
