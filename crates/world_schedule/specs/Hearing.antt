-- What a client answers to bytes.
use Rattle.ids.specs.declared.fault.Fault.{Fault}
use Rattle.std.specs.Prelude.{◌≡◌, Option, Result}
use Rattle.definitions.specs.Bytes.{Bytes}
use Rattle.definitions.specs.Frames.{Frame}
use Rattle.definitions.specs.FrameLimits.{IsReadAs}
use Rattle.definitions.specs.Replicas.{MemorySupply}
use Rattle.definitions.specs.Sessions.{Receipt}
use Rattle.signed_frames.specs.Clients.{client_of}
use Rattle.client_accept.specs.Sessions.{Held, heard_of}
use Rattle.world_schedule.specs.Turns.{hears}

-- bytes came to a client, and this is its answer
pub record HearsAs (old : Held) (bytes : Bytes) (new : Held) (result : Result (Option Receipt) Fault) :
    Type 0 where
  pub keys : new.keys ≡ old.keys
  pub read : Option Frame
  pub is_read : IsReadAs old.keys.sizes bytes read
  pub memory : MemorySupply
  pub state : new.session ≡ (hears (client_of old.keys) memory read old.session).0
  pub answer : heard_of result ≡ (hears (client_of old.keys) memory read old.session).1
