-- The seats of clients.
use Rattle.std.specs.Prelude.{ℕ, Bool, [], nat_lt}
use Rattle.ids.specs.Sizes.{client_party}
use Rattle.definitions.specs.Keyrings.{Keys}
use Rattle.definitions.specs.Sessions.{session_behind}
use Rattle.client_accept.specs.Sessions.{Held}
use Rattle.key_file.specs.KeyFile.{AllKeys, keys_of_party}
use Rattle.client_service.specs.declared.service.ClientService.{ClientService}

-- a client's link, and whether it lies
pub record Link : Type 0 where
  pub lies : Bool

-- the session of the client of these keys, which gives numbers behind this one
abbrev pub session_of : Keys → ℕ → Held
session_of keys behind = record { keys = keys; session = session_behind behind; frame = [] }

-- whose session serves at a seat, and whether it lies
abbrev pub sits : ClientService Link → Held × Bool
sits seat = (seat.session, seat.link.lies)

-- a client has its own session at its seat, and lies there where it is one of so many of the lowest numbers
abbrev pub seated : AllKeys → ℕ → ℕ → Held × Bool
seated keys liars client = (session_of (keys_of_party keys (client_party client)) 0, nat_lt client liars)
