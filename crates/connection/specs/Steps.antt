-- What the steps of serving answer, which lead to what `serve` does.
use Rattle.std.specs.Prelude.{length, ◌≡◌, ℕ, ◌<◌, ◌≤◌, Bool, true, false, ◌⊎◌, [], ◌++◌, Option, Some}
use Rattle.std.specs.Prelude.{None, Result, Ok, Err}
use Rattle.std.specs.Io.KnownBytes.{Appends, Consumes, IsAtEnd}
use Rattle.ids.specs.declared.fault.Fault.{Fault}
use Rattle.ids.specs.declared.fault.Fault.TheVariants as faults
use Rattle.definitions.specs.Bytes.{Bytes}
use Rattle.definitions.specs.Requests.{IsRequest}
use Rattle.definitions.specs.Items.{Item, asked, quit, bad, IsItemAt, IsUnfinished}
use Rattle.connection.specs.declared.end.End.{End}
use Rattle.connection.specs.declared.replies.Next.{Next}
use Rattle.connection.specs.declared.replies.Next.TheVariants.{Unfinished, Served, Ended}
use Rattle.connection.specs.Serving.{State, Replies, ServesFront, CutsFirst, CutsHeld, FailsFlush}

-- an item that was read may be handed to a service
abbrev pub MayBeServed : Item → Type 0
MayBeServed (asked request noreply) = IsRequest request noreply
MayBeServed quit = Unit {0}
MayBeServed (bad fault) = Unit {0}

module _ {S : Type 0} (answers : S → Bytes → Option Bytes → S → Type 0) (old new : State S) where
  -- the first item of a text was served, and it ends the connection
  pub record ServesLast (text : Bytes) (end : End) : Type 0 where
    pub item : Item
    pub used : ℕ
    pub at : IsItemAt text item used
    pub reply : Bytes
    pub replies : Replies answers old.service new.service item reply (Some end)
    pub wrote : Appends old.written new.written reply
    pub unfailed : new.failures ≡ old.failures

module _ {S : Type 0} (answers : S → Bytes → Option Bytes → S → Type 0) (old new : State S) where
  -- the first item of what is held was served, or there is none, or the writer failed
  abbrev pub IsNext : Bytes → Bytes → Result Next Fault → Type 0
  IsNext held left (Ok Unfinished) = IsUnfinished held × (left ≡ held) × (new ≡ old)
  IsNext held left (Ok Served) = ServesFront answers old new held left × (length left < length held)
  IsNext held left (Ok (Ended end)) = ServesLast answers old new held end
  IsNext held left (Err faults.WriteFailed) = CutsFirst answers old new held
  IsNext held left (Err _) = ⊥

  -- all whole items that are held were served, up to the one that ends the connection
  abbrev pub ServesHeld : Bytes → Bytes → Option End → Type 0
  ServesHeld held left None = ServesFront answers old new held left × IsUnfinished left
  ServesHeld held left (Some end) =
      (mid : State S) × (rest : Bytes) × ServesFront answers old mid held rest
      × ServesLast answers mid new rest end

  -- they were, or the writer failed
  abbrev pub IsHeld : Bytes → Bytes → Result (Option End) Fault → Type 0
  IsHeld held left (Ok end) = ServesHeld held left end
  IsHeld held left (Err faults.WriteFailed) = CutsHeld answers old new held
  IsHeld held left (Err _) = ⊥

module _ {S : Type 0} (answers : S → Bytes → Option Bytes → S → Type 0) (old new : State S) where
  -- the same, and then a flush
  abbrev pub IsRound : Bytes → Bytes → Result (Option End) Fault → Type 0
  IsRound held left (Ok end) = ServesHeld answers old new held left end
  IsRound held left (Err faults.WriteFailed) = CutsHeld answers old new held
      ⊎ ((mid : State S) × (end : Option End) × ServesHeld answers old mid held left end
      × FailsFlush answers mid new)
  IsRound held left (Err _) = ⊥

-- some bytes were read behind those that were held, or the reader is at its end
abbrev pub IsPulled : Option Bytes → Option Bytes → Bytes → Bytes → Bool → Type 0
IsPulled source rest held new true =
    (read : Bytes) × Consumes source rest read × (1 ≤ length read) × (new ≡ held ++ read)
IsPulled source rest held new false = Consumes source rest [] × IsAtEnd rest × (new ≡ held)
