-- Where frames come from, as the code has them.
use Rattle.std.specs.Prelude.{◌≡◌, ◌<◌, List, [], ◌∷◌, length, slice_index_or, ⊤}
use Rattle.std.specs.Borrow.{Bor}
use Rattle.definitions.specs.Bytes.{Bytes}
use Rattle.world_schedule.specs.declared.event.Source.{Source}
use Rattle.world_schedule.specs.declared.event.Source.TheVariants.{Record, Bytes as SomeBytes}
use Rattle.world_schedule.specs.declared.outcome.SentFrame.{SentFrame}

-- these are the bytes of a source: those of a recorded frame, or its own
abbrev pub AreBytes : List SentFrame → Source → Bytes → Type 0
AreBytes sent (Record k) bytes =
    (d : SentFrame) × (k < length sent) × (bytes ≡ (slice_index_or sent k d).frame.items)
AreBytes sent (SomeBytes own) bytes = bytes ≡ own.items

-- these are the bytes of sources, in order
abbrev pub AreBytesOf : List SentFrame → List Source → List (Bor Bytes) → Type 0
AreBytesOf sent [] [] = ⊤
AreBytesOf sent (s ∷ ss) (b ∷ bs) = AreBytes sent s b.now × AreBytesOf sent ss bs
AreBytesOf sent [] (b ∷ bs) = ⊥
AreBytesOf sent (s ∷ ss) [] = ⊥
