-- What goes over a client's link, and what the client's session makes of it.
use Rattle.std.specs.Prelude.{◌≡◌, Bool, List, [], ◌∷◌, Option, Some, None}
use Rattle.definitions.specs.Bytes.{Bytes}
use Rattle.definitions.specs.Frames.{Frame}
use Rattle.definitions.specs.FrameLimits.{IsReadAs}
use Rattle.definitions.specs.Replicas.{MemorySupply}
use Rattle.definitions.specs.Sessions.{Receipt, Heard, gives_receipt, only_counts, not_counted, on_reply}
use Rattle.signed_frames.specs.Clients.{client_of}
use Rattle.client_accept.specs.Sessions.{Held}

-- what goes over a link
pub data Traffic : Type 0 where
  sent : Bytes → Traffic  -- these bytes went to all replicas
  came : Bytes → Traffic  -- these came for the client
  silent : Traffic  -- nothing came in time
  looked : (is_open : Bool) → Traffic  -- it was asked whether it is open

-- the receipt that a frame gave, if it did
abbrev pub receipt_in : Heard → Option Receipt
receipt_in (gives_receipt r) = Some r
receipt_in only_counts = None
receipt_in (not_counted n) = None

-- what a session makes of bytes that are this frame, or none
abbrev pub HearsFrame : Held → Option Frame → Option Receipt → Held → Type 0
HearsFrame old None r new = (r ≡ None) × (new ≡ old)
HearsFrame old (Some f) r new =
    (m : MemorySupply) × (r ≡ receipt_in (on_reply (client_of old.keys) m f old.session).1)
    × (new ≡ record old { session = (on_reply (client_of old.keys) m f old.session).0 })

-- what a session makes of what goes over the link, and the receipt that this gives: only what came counts
abbrev pub Hears : Held → Traffic → Option Receipt → Held → Type 0
Hears old (came bytes) r new =
    (read : Option Frame) × IsReadAs old.keys.sizes bytes read × HearsFrame old read r new
Hears old t r new = (r ≡ None) × (new ≡ old)

module _ {L : Type 0} (carries : L → Traffic → L → Type 0) where
  -- one thing goes over the link, and the session hears it
  abbrev pub Passes : Held × L → Traffic → Option Receipt → Held × L → Type 0
  Passes old t r new = carries old.1 t new.1 × Hears old.0 t r new.0

  -- one after the other, none of which gives a receipt
  abbrev pub Goes : Held × L → List Traffic → Held × L → Type 0
  Goes old [] new = new ≡ old
  Goes old (t ∷ ts) new = (between : Held × L) × Passes old t None between × Goes between ts new
