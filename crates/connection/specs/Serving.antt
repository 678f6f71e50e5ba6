-- How a connection is served: by which exchanges, by which calls of the service, and with what written.
use Rattle.std.specs.Prelude.{length, map, ◌≡◌, ◌≢◌, ℕ, ◌-◌, ◌^◌, ◌≤◌, true, ◌⊎◌, List, [], ◌∷◌, ◌++◌, drop}
use Rattle.std.specs.Prelude.{Option, Some, None, IfSome, Result, Ok, Err}
use Rattle.std.specs.Io.KnownBytes.{Appends, Consumes, Keeps, IsAtEnd}
use Rattle.ids.specs.declared.fault.Fault.{Fault}
use Rattle.ids.specs.declared.fault.Fault.TheVariants as faults
use Rattle.ids.specs.declared.line_fault.LineFault.TheVariants.{UnknownName}
use Rattle.definitions.specs.Bytes.{Bytes}
use Rattle.definitions.specs.Requests.{canonical}
use Rattle.definitions.specs.Items.{Item, IsItemAt, AreItems}
use Rattle.definitions.specs.ServerText.{Exchange, answered, finished, told, item_in, exchange_text}
use Rattle.definitions.specs.ServerText.{server_text, is_followed, AreExchanges}
use Rattle.connection.specs.Devices.{Device, CountsOne, WritesPart}
use Rattle.connection.specs.declared.end.End.{End}
use Rattle.connection.specs.declared.end.End.TheVariants.{Quit, Input, Closed, NoReply}

-- ---- exchanges with a service

-- an exchange leads from one service to another: a request by a call with its canonical payload
abbrev pub Call : {S : Type 0} → (S → Bytes → Option Bytes → S → Type 0) → S → Exchange → S → Type 0
Call answers old (answered request noreply answer) new = answers old (canonical request) answer new
Call answers old finished new = new ≡ old
Call answers old (told fault) new = new ≡ old

-- a chain of them
abbrev pub Calls : {S : Type 0} → (S → Bytes → Option Bytes → S → Type 0) → S → List Exchange → S → Type 0
Calls answers old [] new = new ≡ old
Calls {S} answers old (exchange ∷ exchanges) new =
    (between : S) × Call answers old exchange between × Calls answers between exchanges new

-- what an exchange ends the connection with, if it does
abbrev pub end_of : Exchange → Option End
end_of (answered request noreply None) = Some NoReply
end_of (answered request noreply (Some text)) = None
end_of finished = Some Quit
end_of (told UnknownName) = None
end_of (told fault) = Some Closed

-- what the last of some exchanges ends it with
abbrev pub ended_by : List Exchange → Option End
ended_by [] = None
ended_by (exchange ∷ []) = end_of exchange
ended_by (exchange ∷ next ∷ exchanges) = ended_by (next ∷ exchanges)

-- the same as an answer of the server; the end of the input is no exchange's
abbrev pub ending : End → Option End
ending Input = None
ending Quit = Some Quit
ending Closed = Some Closed
ending NoReply = Some NoReply

-- the exchanges of a text are of its first items, and nothing stands behind them unless the service refused
abbrev pub ServesFirstItems : Type 0
ServesFirstItems =
    (text : Bytes) (exchanges : List Exchange) (items : List Item) → AreExchanges text exchanges
    → AreItems text items
    → (behind : List Item) × (items ≡ map item_in exchanges ++ behind)
    × ((ended_by exchanges ≢ Some NoReply) → behind ≡ [])

-- ---- what serving changes

-- a service, what a writer holds, and how often the writer failed
pub record State (S : Type 0) : Type 0 where
  pub service : S
  pub written : Option Bytes
  pub failures : ℕ

-- a service with a counted writer
abbrev pub state : {S D : Type 0} → (D → Option Bytes) → S → Device D → State S
state contents service writer =
    record { service = service; written = contents writer.device; failures = writer.failures }

module _ {S : Type 0} (answers : S → Bytes → Option Bytes → S → Type 0) where
  -- The items at the front of a text are served, one after the other, and behind each of them more is; this
  -- is left.
  abbrev pub Serving : S → Bytes → List Exchange → S → Bytes → Type 0
  Serving old text [] new left = (new ≡ old) × (left ≡ text)
  Serving old text (exchange ∷ exchanges) new left =
      (used : ℕ) × IsItemAt text (item_in exchange) used × (is_followed exchange ≡ true)
      × (between : S) × Call answers old exchange between
      × Serving between (drop used text) exchanges new left

  -- what an item is answered, and whether that ends the connection
  pub record Replies (old new : S) (item : Item) (text : Bytes) (end : Option End) : Type 0 where
    pub exchange : Exchange
    pub is : item_in exchange ≡ item
    pub call : Call answers old exchange new
    pub says : text ≡ exchange_text exchange
    pub ends : end ≡ end_of exchange

  module _ (old new : State S) where
    -- the front of a text was served, and this is left of it
    pub record ServesFront (text left : Bytes) : Type 0 where
      pub exchanges : List Exchange
      pub serving : Serving old.service text exchanges new.service left
      pub wrote : Appends old.written new.written (server_text exchanges)
      pub unfailed : new.failures ≡ old.failures

    -- the first item of a text was served, the writer failed, and of its reply a part was written
    pub record CutsFirst (text : Bytes) : Type 0 where
      pub item : Item
      pub used : ℕ
      pub at : IsItemAt text item used
      pub reply : Bytes
      pub end : Option End
      pub replies : Replies old.service new.service item reply end
      pub wrote : WritesPart old.written new.written reply
      pub failed : CountsOne old.failures new.failures

    -- A text was served, up to the item that ends the connection, or to what is unfinished: by these
    -- exchanges, one for each item. All was written.
    pub record ServesText (text : Bytes) (end : Option End) : Type 0 where
      pub exchanges : List Exchange
      pub are : AreExchanges text exchanges
      pub calls : Calls answers old.service exchanges new.service
      pub wrote : Appends old.written new.written (server_text exchanges)
      pub ended : ended_by exchanges ≡ end
      pub unfailed : new.failures ≡ old.failures

    -- all was written, and then the writer failed at a flush
    pub record FailsFlush : Type 0 where
      pub same : new.service ≡ old.service
      pub kept : Keeps old.written new.written
      pub failed : CountsOne old.failures new.failures

-- ---- what serving a text comes to

module _ {S : Type 0} (answers : S → Bytes → Option Bytes → S → Type 0) (old new : State S) where
  -- the writer failed at a reply, of which a part was written, and all before it were written
  abbrev pub CutsHeld : Bytes → Type 0
  CutsHeld held =
      (mid : State S) × (rest : Bytes) × ServesFront answers old mid held rest
      × CutsFirst answers mid new rest

  -- a text was served, and the writer failed: at a reply, or at a flush behind all replies
  abbrev pub CutsText : Bytes → Type 0
  CutsText text =
      CutsHeld text
      ⊎ ((mid : State S) × (end : Option End) × ServesText answers old mid text end
      × FailsFlush answers mid new)

-- ---- what serving a connection comes to

-- what lies around a connection: a service with a counted writer, what a reader has left, and how often that failed
pub record Around (S : Type 0) : Type 0 where
  pub state : State S
  pub unread : Option Bytes
  pub failures : ℕ

abbrev pub around : {S I O : Type 0} → (I → Option Bytes) → (O → Option Bytes) → S → Device I → Device O → Around S
around remaining contents service reader writer = record {
  state = state contents service writer;
  unread = remaining reader.device;
  failures = reader.failures;
}

module _ {S : Type 0} (answers : S → Bytes → Option Bytes → S → Type 0) (old new : Around S) where
  -- these bytes were read
  abbrev pub Reads : Bytes → Type 0
  Reads bytes = Consumes old.unread new.unread bytes

  -- Where an item or a read told the end, all that was read was served, and so was the whole input, in whatever
  -- pieces it came. Where the reader failed, all that was read was. Where memory was refused nothing was done; or
  -- else 2^64 - 1 reads each gave something, and the front of that was served.
  abbrev pub IsServed : Result End Fault → Type 0
  IsServed (Ok end) =
      (read : Bytes) × Reads read × ServesText answers old.state new.state read (ending end)
      × IfSome old.unread (λ input. ServesText answers old.state new.state input (ending end))
      × (end ≡ Input → IsAtEnd new.unread) × (new.failures ≡ old.failures)
  IsServed (Err faults.ReadFailed) =
      (read : Bytes) × Reads read × ServesText answers old.state new.state read None
      × CountsOne old.failures new.failures
  IsServed (Err faults.WriteFailed) =
      (read : Bytes) × Reads read × CutsText answers old.state new.state read × (new.failures ≡ old.failures)
  IsServed (Err faults.Memory) = (((new.state ≡ old.state) × (new.unread ≡ old.unread))
      ⊎ ((read : Bytes) × (left : Bytes) × Reads read × (2 ^ 64 - 1 ≤ length read)
      × ServesFront answers old.state new.state read left)) × (new.failures ≡ old.failures)
  IsServed (Err _) = ⊥
