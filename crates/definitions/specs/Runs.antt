-- A run of a world: every schedule of events.
use Rattle.ids.specs.declared.fault.Fault.{Fault}
use Rattle.ids.specs.declared.fault.Fault.TheVariants as fault
use Rattle.std.specs.Prelude.{not, ◌&&◌, ◌==◌, Bool, true, List, [], ◌∷◌, length, if◌then◌else◌, nat_lt}
use Rattle.std.specs.Prelude.{Option, Some}
use Rattle.std.specs.Prelude.{None, Result, Ok, Err}
use Rattle.std.specs.List.{list_all}
use Rattle.definitions.specs.Canonical.{is_canonical}
use Rattle.definitions.specs.Worlds.{World, Event, Happening, is_replica, is_party, submit, relay, inject}
use Rattle.definitions.specs.Worlds.{timeout, beat, prune, offer, gather, lead, ask, Source, of_record}
use Rattle.definitions.specs.Worlds.{of_bytes}
use Rattle.definitions.specs.Events.{happens}

-- what the run refuses
abbrev pub names_party : World → Event → Bool
names_party w (submit c payload) = nat_lt c w.sizes.clients
names_party w (relay k to) = is_party w to
names_party w (inject to bytes read) = is_party w to
names_party w (timeout r) = is_replica w r
names_party w (beat r) = is_replica w r
names_party w (prune r height) = is_replica w r
names_party w (offer to source) = is_replica w to
names_party w (gather to sources) = is_replica w to
names_party w (lead r d) = is_replica w r
names_party w (ask r to d) = is_replica w r && is_replica w to

-- the frame of a source is one of the record, if it comes from there
abbrev pub is_there : World → Source → Bool
is_there w (of_record k) = nat_lt k (length w.sent)
is_there w (of_bytes bytes read) = true

-- the frame is one of the record
abbrev pub names_frame : World → Event → Bool
names_frame w (relay k to) = nat_lt k (length w.sent)
names_frame w (offer to source) = is_there w source
names_frame w (gather to sources) = list_all (is_there w) sources
names_frame w e = true

-- the payload is a canonical request, and what is asked for is as long as a digest
abbrev pub names_request : Event → Bool
names_request (submit c payload) = is_canonical payload
names_request (ask r to d) = length d == 32
names_request e = true

-- why the run refuses an event
unfoldable pub refusal : World → Event → Option Fault
refusal w e =
    if not (names_party w e) then Some fault.NoSuchParty
    else (if not (names_frame w e) then Some fault.NoSuchFrame
    else (if not (names_request e) then Some fault.NotARequest else None))

-- a whole schedule; the first event that is refused ends it
unfoldable pub run : World → List Happening → Result World Fault
run w [] = Ok w
run w (h ∷ hs) = elim (refusal w h.0) [ Some n ↦ Err n | None ↦ run (happens w h) hs ]

-- the world after a schedule, whatever it refuses
unfoldable pub after : World → List Happening → World
after w [] = w
after w (h ∷ hs) = after (happens w h) hs
