-- The request that a client waits for, in the record.
use Rattle.std.specs.Prelude.{ℕ, ◌≡◌, ◌==◌, ◌&&◌, Bool, false, Option, Some, None, position, if◌then◌else◌}
use Rattle.std.specs.Option.{option_and_then}
use Rattle.ids.specs.Sizes.{Sizes, client_party}
use Rattle.definitions.specs.FrameLimits.{IsReadAs}
use Rattle.definitions.specs.Frames.{Frame, spelling}
use Rattle.definitions.specs.Frames as frame
use Rattle.definitions.specs.Sessions.{Session}
use Rattle.definitions.specs.Worlds.{World, Sent}

-- the frame is the request of a client that its session waits for
abbrev pub is_asked : ℕ → Session → Frame → Bool
is_asked client s (frame.request c) = (c.client == client) && (s.waiting && (c.seq == s.used))
is_asked client s f = false

-- the bytes of a frame of the record are read as that frame
abbrev pub IsReadAsSent : Sizes → Sent → Type 0
IsReadAsSent sizes s = (read : Option Frame) → IsReadAs sizes (spelling s.frame) read → read ≡ Some s.frame

-- the number of the first frame of the record that is such a request
abbrev pub find_request : ℕ → Session → World → Option ℕ
find_request client s w = position (λ x. is_asked client s x.frame) w.sent

-- the session of a client, if it is correct
abbrev pub session_of : ℕ → World → Option Session
session_of client w = if w.is_faulty (client_party client) then None else Some (w.session client)

-- the number of the request that a client waits for, if it is correct and waits
abbrev pub request_of : ℕ → World → Option ℕ
request_of client w = option_and_then (λ s. find_request client s w) (session_of client w)
