-- What a connection brings, and as whose it is handed on.
use Rattle.std.specs.Prelude.{◌≡◌, ℕ, List, [], ◌∷◌, ◌++◌, Option}
use Rattle.std.specs.Io.KnownBytes.{Consumes}
use Rattle.definitions.specs.Bytes.{Bytes}
use Rattle.wire_frames.specs.Framing.{Holding, stream, IsUnfinished, IsTooLong}
use Rattle.wires.specs.declared.end.End.{End}
use Rattle.wires.specs.declared.end.End.TheVariants.{Closed, Failed, BadLength, Memory}

module _ {A : Type 0} (takes : A → ℕ → Bytes → A → Type 0) (from : ℕ) where
  -- Each of these frames, one after the other, was handed on as this party's. A frame of no bytes is a ping, and is not
  -- handed on.
  abbrev pub HandsOn : A → List Bytes → A → Type 0
  HandsOn old [] new = new ≡ old
  HandsOn old ([] ∷ frames) new = HandsOn old frames new
  HandsOn old ((byte ∷ bytes) ∷ frames) new =
      (between : A) × takes old from (byte ∷ bytes) between × HandsOn between frames new

  -- bytes are such frames as they go over a wire, and then what is left
  pub record Passes (old new : A) (bytes left : Bytes) : Type 0 where
    pub frames : List Bytes
    pub are : bytes ≡ stream frames ++ left
    pub hands : HandsOn old frames new

-- What is left when nothing more is read: a length that no item has, or no whole frame.
abbrev pub IsLeft : (longest : ℕ) → Bytes → End → Type 0
IsLeft longest left BadLength = IsTooLong longest left
IsLeft longest left Closed = IsUnfinished longest left
IsLeft longest left Failed = IsUnfinished longest left
IsLeft longest left Memory = IsUnfinished longest left

-- Some bytes were read behind those that a feed held: with these they are frames that were handed on as this party's, in
-- order, and then what it holds now.
pub record ReceivesMore {A : Type 0} (takes : A → ℕ → Bytes → A → Type 0) (from : ℕ) (old new : A)
    (source rest : Option Bytes) (before after : Holding) : Type 0 where
  pub read : Bytes
  pub consumed : Consumes source rest read
  pub passed : Passes takes from old new (before.held ++ read) after.held

-- What was read of a connection is frames that were handed on as this party's, in order, and then what is left.
pub record Receives {A : Type 0} (takes : A → ℕ → Bytes → A → Type 0) (from : ℕ) (old new : A)
    (source rest : Option Bytes) (longest : ℕ) (end : End) : Type 0 where
  pub read : Bytes
  pub left : Bytes
  pub consumed : Consumes source rest read
  pub passed : Passes takes from old new read left
  pub ended : IsLeft longest left end
