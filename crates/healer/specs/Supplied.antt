-- Whether an event's party was refused memory, by what is told of the event.
use Rattle.ids.specs.declared.fault.Fault.{Fault}
use Rattle.ids.specs.declared.fault.Fault.TheVariants as fault
use Rattle.std.specs.Prelude.{◌≡◌, ◌==◌, ◌&&◌, not, Bool, true, false, Option, Some, length}
use Rattle.definitions.specs.Events.{Effect}
use Rattle.definitions.specs.Worlds.{Event, relay, inject, offer, ask}
use Rattle.world_schedule.specs.declared.event.Event as code
use Rattle.world_schedule.specs.declared.event.Event.TheVariants.{Relay, Inject, Offer, Ask}

-- Whether a replica that lacks a block sends a question in this event. Who is to ask itself sends none, and for what is
-- gathered or led from nobody is asked.
abbrev pub asks : Event → Bool
asks (relay frame to) = true
asks (inject to bytes read) = true
asks (offer to source) = true
asks (ask replica to block) = not (replica == to)
asks e = false

-- the same of a schedule's event
abbrev pub asks_in : code.Event → Bool
asks_in (Relay frame to) = true
asks_in (Inject to bytes) = true
asks_in (Offer to source) = true
asks_in (Ask replica to block) = not (replica == to)
asks_in e = false

-- Whether memory was refused in an event that is answered so. Where a block was lacking, and a question was to go out,
-- one that did shows that it wasn't.
abbrev pub lacked : (asks silent : Bool) → Option Fault → Bool
lacked asks silent (Some fault.Memory) = true
lacked asks silent (Some fault.UnknownParent) = asks && silent
lacked asks silent a = false

-- nothing is told of refused memory
abbrev pub IsSupplied : Event → Effect → Type 0
IsSupplied e f = lacked (asks e) (length f.out == 0) f.answer ≡ false
